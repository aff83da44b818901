-- The steps that an accepted event makes on the code board. Events that aren't listed, and refused ones, make none.
use Rattle.std.specs.Prelude.{◌≡◌, ℕ, ◌+◌, ℤ, pos, negsuc, Bool, true, false, List, [], ◌∷◌, ◌++◌, Option, Some, None, if◌then◌else◌}
use Rattle.frames.specs.declared.CodeId.{CodeId}
use Rattle.frames.specs.declared.board_rule.EntryState.TheVariants.{InUse, NotEntrant, Zombie, Vacant}
use Rattle.frames.specs.declared.board_rule.StepMade.{StepMade}
use Rattle.frames.specs.declared.board_rule.StepMade.TheVariants.{LoadEntry, StoreEntry, LoadMoment, AddMoment, StorePlace, AddCount, SubCount, LoadPlace, LoadCount}
use Rattle.method_table.specs.declared.Code.{Code}
use Rattle.system.specs.declared.events.Act.{Act}
use Rattle.system.specs.declared.events.Act.TheVariants as act
use Rattle.system.specs.declared.events.Event.{Event}
use Rattle.system.specs.declared.events.Event.TheVariants as event
use Rattle.system.specs.declared.answers.Answer.{Answer}
use Rattle.system.specs.declared.answers.Answer.TheVariants as answer
use Rattle.frames.specs.BoardWords.{entry_of, count_of, place_of, the_moment}
use Rattle.frames.specs.BoardRule.{BoardState, code, IsBoardKept}
use Rattle.frames.specs.BoardStep.{Actor, keeper, thread, BoardStep}
use Rattle.method_table.specs.Codes.{id_of, code_of, in_use_for, free_slot, next_serial}
use Rattle.system.specs.Moments.{publishing_at}
use Rattle.system.specs.World.{World, start_world, thread_at}
use Rattle.system.specs.Runs.{after, answer_to, world_after}
use Rattle.tie.specs.BoardOf.{word_by, board_of}

-- A step, with the seat that makes it.
pub record Made : Type 0 where
  pub actor : Actor
  pub step : StepMade

-- One step of the seat of a place's thread, or of the keeper.
abbrev pub of_thread : ℕ → StepMade → List Made
of_thread place step = record { actor = thread place; step = step } ∷ []

abbrev pub of_keeper : StepMade → List Made
of_keeper step = record { actor = keeper; step = step } ∷ []

-- The steps for the code that a search found. If it found none, the event is refused and makes no step.
abbrev pub for_code : Option Code → (CodeId → List Made) → List Made
for_code None steps = []
for_code (Some code) steps = steps (id_of code)

-- The steps that store a code with the next serial into the slot that a search found.
abbrev pub for_slot : Option ℕ → (ℕ → List Made) → List Made
for_slot None steps = []
for_slot (Some slot) steps = steps slot

-- An Enter with a code loads the entry of the code's slot, whatever the answer. An Enter without a code makes no step.
abbrev pub enter_steps : World → ℕ → Option ℕ → List Made
enter_steps w place None = []
enter_steps w place (Some serial) = for_code (code_of w.codes serial) (λ c. of_thread place (LoadEntry c (word_by w (entry_of c.slot))))

-- The count rises or falls by the answered difference.
abbrev pub count_by : CodeId → ℤ → ℕ → StepMade
count_by c (pos n) found = AddCount c n found
count_by c (negsuc n) found = SubCount c (n + 1) found

-- A Change adjusts the count of the slot of the code that it answers. Where nothing is left to publish it makes no step.
abbrev pub change_steps : World → ℕ → Answer → List Made
change_steps w place (answer.Changed serial by) = for_code (code_of w.codes serial) (λ c. of_thread place (count_by c by (word_by w (count_of c.slot))))
change_steps w place given = []

-- A Weigh loads the count of the code's slot, unless some place wasn't found clear. If it retires the code, it then stores the entry as
-- zombie.
abbrev pub weigh_steps : World → CodeId → Answer → List Made
weigh_steps w c (answer.Used n) = of_keeper (LoadCount c (word_by w (count_of c.slot)))
weigh_steps w c answer.Retired = record { actor = keeper; step = LoadCount c (word_by w (count_of c.slot)) } ∷ of_keeper (StoreEntry c Zombie)
weigh_steps w c given = []

-- The steps of an accepted act, by its answer.
abbrev pub act_steps : World → ℕ → Act → Answer → List Made
act_steps w place act.Begin given = of_thread place (LoadMoment (word_by w the_moment))
act_steps w place act.Change given = change_steps w place given
act_steps w place act.End given = of_thread place (StorePlace (publishing_at w.log place (thread_at w place)))
act_steps w place act.Wake given = []
act_steps w place act.Cross given = []
act_steps w place (act.Enter method serial) given = enter_steps w place serial
act_steps w place act.Leave given = []
act_steps w place act.Edge given = []
act_steps w place act.ToVm given = []
act_steps w place act.FromVm given = []
act_steps w place act.ToNative given = []
act_steps w place act.Block given = []
act_steps w place act.Exit given = of_thread place (StorePlace 0)
act_steps w place act.Take given = []
act_steps w place act.Finish given = []
act_steps w place act.Clear given = []
act_steps w place act.Hold given = []
act_steps w place act.Release given = []
act_steps w place act.Stack given = []

-- The steps of an accepted event, by its answer. An Install over code in use first stores that code as not entrant.
abbrev pub accepted_steps : World → Event → Answer → List Made
accepted_steps w (event.At place act) given = act_steps w place act given
accepted_steps w event.Start given = []
accepted_steps w (event.Install method) given =
    for_code (in_use_for w.codes method) (λ c. of_keeper (StoreEntry c NotEntrant))
    ++ for_slot (free_slot w.codes w.slots) (λ slot. of_keeper (StoreEntry (code slot (next_serial w.codes)) InUse))
accepted_steps w (event.Invalidate serial) given = for_code (code_of w.codes serial) (λ c. of_keeper (StoreEntry c NotEntrant))
accepted_steps w event.Round given = of_keeper (AddMoment (word_by w the_moment))
accepted_steps w (event.Look serial place) given = for_code (code_of w.codes serial) (λ c. of_keeper (LoadPlace c place (word_by w (place_of place))))
accepted_steps w (event.Weigh serial) given = for_code (code_of w.codes serial) (λ c. weigh_steps w c given)
accepted_steps w (event.Free serial) given = for_code (code_of w.codes serial) (λ c. of_keeper (StoreEntry c Vacant))
accepted_steps w (event.Ask request) given = []
accepted_steps w event.Open given = []
accepted_steps w (event.Tell name) given = []
accepted_steps w event.Operate given = []
accepted_steps w (event.Close number) given = []
accepted_steps w (event.Count serial) given = []
accepted_steps w (event.CodeState serial) given = []
accepted_steps w (event.Resolve method) given = []

-- The steps of an event with its answer. A refused event makes none.
abbrev pub is_refused : Answer → Bool
is_refused (answer.Refused refusal) = true
is_refused given = false

abbrev pub steps_of : World → Event → Answer → List Made
steps_of w event given = if is_refused given then [] else accepted_steps w event given

-- Exactly these steps take the board from old to new, one after the other, and it satisfies the rule after each.
abbrev pub GoesBy : ℕ → ℕ → BoardState → List Made → BoardState → Type 0
GoesBy slots places old [] new = new ≡ old
GoesBy slots places old (made ∷ rest) new =
    (next : BoardState) × BoardStep slots places old next made.actor made.step × IsBoardKept slots places next × GoesBy slots places next rest new

-- After any events, the steps of every next event, and nothing else, take the board of the world before it to that of the world after it.
abbrev pub EventsAreTheirSteps : Type 0
EventsAreTheirSteps = (places slots methods : ℕ) (events : List Event) (event : Event)
    → GoesBy slots places (board_of (world_after (start_world places slots methods) events))
    (steps_of (world_after (start_world places slots methods) events) event (answer_to (world_after (start_world places slots methods) events) event))
    (board_of (after (world_after (start_world places slots methods) events) event))
