-- How the answer to an event relates to the poll word that its step met.
use Rattle.std.specs.Prelude.{◌≡◌, ℕ, ◌<◌, ◌≤◌, ◌==◌, Bool, true, false, List, Option, Some, None, if◌then◌else◌}
use Rattle.thread_state.specs.declared.poll_rule.Deed.{Deed}
use Rattle.thread_state.specs.declared.poll_rule.Deed.TheVariants.{Nothing, Load, Store, Exchange}
use Rattle.system.specs.declared.events.Act.{Act}
use Rattle.system.specs.declared.events.Act.TheVariants as act
use Rattle.system.specs.declared.events.Event.{Event}
use Rattle.system.specs.declared.events.Event.TheVariants as event
use Rattle.system.specs.declared.answers.Answer.{Answer}
use Rattle.system.specs.declared.answers.Answer.TheVariants as answer
use Rattle.system.specs.World.{World, start_world}
use Rattle.system.specs.Runs.{answer_to, world_after}
use Rattle.system.specs.Safepoints.{is_accepted}
use Rattle.tie.specs.PollRow.{PollDeed, row_of, load, polls_of}

-- A poll that loads 0 goes on. A poll that loads another number stops for that operation.
abbrev pub said_by : ℕ → Answer
said_by found = if found == 0 then answer.Go else answer.Stop found

-- The deed determines the answer. A poll answers by the value that it loads. A store belongs to a Tell that is answered Told. The exchange
-- of an accepted Clear finds the number that it clears, or a greater one, which stays.
abbrev pub IsToldBy : Deed → Answer → Type 0
IsToldBy Nothing said = Unit {0}
IsToldBy (Load found) said = said ≡ said_by found
IsToldBy (Store place n) said = said ≡ answer.Told
IsToldBy (Exchange n found) said = (0 < n) × (n ≤ found)

-- The answer of an event without a step doesn't depend on a poll word.
abbrev pub IsAnswered : Option PollDeed → Answer → Type 0
IsAnswered None said = Unit {0}
IsAnswered (Some step) said = IsToldBy step.deed said

-- This holds of every next event, after any events.
abbrev pub PollsAnswerTheirWords : Type 0
PollsAnswerTheirWords = (places slots methods : ℕ) (events : List Event) (next : Event)
    → IsAnswered (polls_of (world_after (start_world places slots methods) events) next (answer_to (world_after (start_world places slots methods) events) next))
    (answer_to (world_after (start_world places slots methods) events) next)

-- The acts of a thread that poll.
abbrev pub is_poll : Act → Bool
is_poll act.Edge = true
is_poll act.Leave = true
is_poll act.Cross = true
is_poll act.FromVm = true
is_poll other = false

-- Where such an act is accepted, its only step is the load of its place's word, and the loaded value determines its answer.
abbrev pub IsOneLoad : World → ℕ → Act → Answer → Type 0
IsOneLoad w place polling said = is_accepted said ≡ true → (polls_of w (event.At place polling) said ≡ load w place) × (said ≡ said_by (row_of w place).word)

abbrev pub PollsLoadTheirWord : Type 0
PollsLoadTheirWord = (places slots methods : ℕ) (events : List Event) (place : ℕ) (polling : Act) → is_poll polling ≡ true
    → IsOneLoad (world_after (start_world places slots methods) events) place polling (answer_to (world_after (start_world places slots methods) events) (event.At place polling))
