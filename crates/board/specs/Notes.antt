-- The keeper's notes agree with its view; and the result of a weighing.
use Rattle.std.specs.Prelude.{◌≡◌, ◌≢◌, ℕ, ◌^◌, ◌<◌, Bool, true, false, List, length, slice_index_or, ◌||◌, ◌&&◌, ◌==◌}
use Rattle.std.specs.Int.{bit_at}
use Rattle.frames.specs.declared.CodeId.{CodeId}
use Rattle.frames.specs.declared.board_rule.SlotView.{SlotView}
use Rattle.frames.specs.declared.board_rule.KeeperView.{KeeperView}
use Rattle.frames.specs.BoardRule.{BoardState, IsBoardKept}
use Rattle.frames.specs.BoardStep.{is_past}
use Rattle.frames.specs.BoardViews.{slot_of, has_place, weighed}
use Rattle.board.specs.declared.note.Note.{Note}
use Rattle.board.specs.declared.weighed.Weighed.{Weighed}
use Rattle.board.specs.declared.weighed.Weighed.TheVariants.{NotLooked, Used, Clear}
use Rattle.board.specs.Boards.{BoardId, IsKeptBy, KeeperSteps}

abbrev pub note_at : ℕ → Note
note_at left = record { left = left; looked = 0 }

-- the place is noted as looked at: its bit is set
abbrev pub is_noted : Note → ℕ → Bool
is_noted note p = bit_at note.looked p == 1

abbrev pub blank : Note
blank = note_at 0

-- a load of the place's moment is noted: the place counts as looked at if the moment that was found shows it covered, and nothing else
-- changes
abbrev pub IsNotedAfter : Note → Note → ℕ → ℕ → Type 0
IsNotedAfter old new p found = (new.left ≡ old.left) × ((q : ℕ) → q < 64 → is_noted new q ≡ (((q == p) && is_past old.left found) || is_noted old q))

-- the note agrees with the view of its slot
pub record Agrees (note : Note) (s : SlotView) : Type 0 where
  pub left : note.left ≡ s.left
  pub looked : (p : ℕ) → p < 64 → is_noted note p ≡ has_place s.looked p
  pub small : s.serial < 2 ^ 40

pub record AreNoted (slots : ℕ) (notes : List Note) (k : KeeperView) : Type 0 where
  pub notes_are : length notes ≡ slots
  pub slots_are : length k.slots ≡ slots
  pub each : (i : ℕ) → i < slots → Agrees (slice_index_or notes i blank) (slot_of k i)

-- the place was looked at for the code of the slot
abbrev pub IsLooked : KeeperView → CodeId → ℕ → Type 0
IsLooked k c p = has_place (slot_of k c.slot).looked p ≡ true

-- The result of a weighing, and the view after it: no step if a place isn't looked at, otherwise one load of the count.
abbrev pub IsWeighed : ℕ → CodeId → KeeperView → KeeperView → Weighed → Type 0
IsWeighed places c old new (NotLooked p) = (p < places) × (has_place (slot_of old c.slot).looked p ≡ false) × ((q : ℕ) → q < p → IsLooked old c q) × (new ≡ old)
IsWeighed places c old new (Used n) = (n ≢ 0) × ((q : ℕ) → q < places → IsLooked old c q) × (new ≡ weighed old c n)
IsWeighed places c old new Clear = ((q : ℕ) → q < places → IsLooked old c q) × (new ≡ weighed old c 0)

-- the step of a weighing, if it makes one
abbrev pub WeighSteps : BoardId → KeeperView → KeeperView → Weighed → Type 0
WeighSteps b old new (NotLooked p) = Unit {0}
WeighSteps b old new (Used n) = KeeperSteps b old new
WeighSteps b old new Clear = KeeperSteps b old new

abbrev pub WeighStamps : ℕ → ℕ → Weighed → Type 0
WeighStamps old new (NotLooked p) = Unit {0}
WeighStamps old new (Used n) = old < new
WeighStamps old new Clear = old < new

-- On some board that meets the rule and agrees with the keeper's view, no seat counts the code, and none has it fresh.
pub record IsNowhere (board : BoardId) (k : KeeperView) (c : CodeId) : Type 0 where
  pub state : BoardState
  pub kept : IsBoardKept board.slots board.places state
  pub keeper : IsKeptBy state k
  pub uncounted : (p : ℕ) → p < board.places → (state.seat p).counted c ≡ 0
  pub unfresh : (p : ℕ) → p < board.places → (state.seat p).fresh c ≡ false

abbrev pub WeighTells : BoardId → KeeperView → CodeId → Weighed → Type 0
WeighTells b new c (NotLooked p) = Unit {0}
WeighTells b new c (Used n) = Unit {0}
WeighTells b new c Clear = IsNowhere b new c
