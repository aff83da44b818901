-- How an answer of the core follows from the word that the event's step loads. A running call computes the answer from that load.
use Rattle.std.specs.Prelude.{◌≡◌, ◌≢◌, ℕ, ◌<◌, nat_lt, Bool, true, false, if◌then◌else◌, List, Some}
use Rattle.frames.specs.declared.CodeId.{CodeId}
use Rattle.method_table.specs.declared.Code.{Code}
use Rattle.system.specs.declared.events.Act.TheVariants as act
use Rattle.system.specs.declared.events.Event.{Event}
use Rattle.system.specs.declared.events.Event.TheVariants as event
use Rattle.system.specs.declared.answers.Answer.{Answer}
use Rattle.system.specs.declared.answers.Answer.TheVariants as answer
use Rattle.system.specs.declared.answers.Refusal.TheVariants.{Spent}
use Rattle.method_table.specs.Numbers.{last_number}
use Rattle.frames.specs.BoardWords.{entry_of, count_of, place_of, says_in_use}
use Rattle.frames.specs.BoardStep.{is_past}
use Rattle.method_table.specs.Codes.{id_of, code_of}
use Rattle.system.specs.World.{World, start_world}
use Rattle.system.specs.Runs.{answer_to, world_after}
use Rattle.tie.specs.BoardOf.{word_by, slot_at, board_of}

-- P holds of the identifier of the code with this serial.
abbrev pub OfCode : World → ℕ → (CodeId → Type 0) → Type 0
OfCode w serial P = (code : Code) → code_of w.codes serial ≡ Some code → P (id_of code)

-- The entry word of the code says whether the code is in use.
abbrev pub EntrySays : World → ℕ → Bool → Type 0
EntrySays w serial says = OfCode w serial (λ c. says_in_use (word_by w (entry_of c.slot)) c ≡ says)

-- The place's word lets the place pass a look for the code, or doesn't.
abbrev pub PlaceSays : World → ℕ → ℕ → Bool → Type 0
PlaceSays w serial place says = OfCode w serial (λ c. is_past (slot_at w c.slot).left (word_by w (place_of place)) ≡ says)

-- The place is the lowest one that the keeper hasn't found clear for the code.
pub record IsLeastUnlooked (looked : ℕ → Bool) (place : ℕ) : Type 0 where
  pub unlooked : looked place ≡ false
  pub least : (q : ℕ) → q < place → looked q ≡ true

abbrev pub KeeperSays : World → ℕ → ℕ → Type 0
KeeperSays w serial place = OfCode w serial (λ c. IsLeastUnlooked (slot_at w c.slot).looked place)

-- The word that the event loads determines the answer: for Enter the entry, for Look the place, for Weigh the count. Where Weigh answers
-- NotLooked it loads no word, and the keeper's view determines the answer. The answers of other events depend on no load.
abbrev pub IsReadOff : World → Event → Answer → Type 0
IsReadOff w (event.At place (act.Enter method (Some serial))) answer.Entered = EntrySays w serial true
IsReadOff w (event.At place (act.Enter method (Some serial))) answer.WrongMethod = EntrySays w serial false
IsReadOff w (event.Look serial place) answer.Clear = PlaceSays w serial place true
IsReadOff w (event.Look serial place) answer.Late = PlaceSays w serial place false
IsReadOff w (event.Weigh serial) (answer.NotLooked place) = KeeperSays w serial place
IsReadOff w (event.Weigh serial) (answer.Used n) = OfCode w serial (λ c. (word_by w (count_of c.slot) ≡ n) × (n ≢ 0))
IsReadOff w (event.Weigh serial) answer.Retired = OfCode w serial (λ c. word_by w (count_of c.slot) ≡ 0)
IsReadOff w event given = Unit {0}

-- This holds of every next event, after any events.
abbrev pub AnswersAreReadOff : Type 0
AnswersAreReadOff = (places slots methods : ℕ) (events : List Event) (event : Event)
    → IsReadOff (world_after (start_world places slots methods) events) event (answer_to (world_after (start_world places slots methods) events) event)

-- A Round is accepted exactly where the keeper's moment is below the last one. Otherwise it is refused as Spent and makes no step.
abbrev pub RoundsReadTheMoment : Type 0
RoundsReadTheMoment = (places slots methods : ℕ) (events : List Event)
    → answer_to (world_after (start_world places slots methods) events) event.Round
    ≡ (if nat_lt (board_of (world_after (start_world places slots methods) events)).now last_number then answer.Done else answer.Refused Spent)
