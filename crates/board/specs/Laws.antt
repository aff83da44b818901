-- What the rule of a board requires of each step, whatever a play says of it, and how the words are spaced.
use Rattle.std.specs.Prelude.{◌≡◌, ◌≢◌, ◌⊎◌, ℕ, suc, ◌+◌, ◌^◌, ◌<◌, ◌≤◌, [], length, slice_index, slice_set}
use mathlib.Core.Option.{some}
use lib.ListN.{get_elem?}
use Rattle.atomic_table.specs.Table.{State, Me, Allows}
use Rattle.frames.specs.declared.CodeId.{CodeId}
use Rattle.frames.specs.declared.board_rule.EntryState.TheVariants.{InUse}
use Rattle.frames.specs.declared.board_rule.StepMade.TheVariants.{LoadEntry, LoadMoment, LoadPlace, LoadCount}
use Rattle.frames.specs.declared.board_rule.KeeperView.{KeeperView}
use Rattle.frames.specs.declared.board_rule.SeatView.{SeatView}
use Rattle.frames.specs.declared.board_rule.BoardView.{BoardView}
use Rattle.frames.specs.declared.board_rule.BoardView.TheVariants.{Keeper, Thread}
use Rattle.frames.specs.BoardWords.{Word, IsWord, entry_of, count_of, place_of, the_moment}
use Rattle.frames.specs.BoardViews.{slot_of, how_often}
use Rattle.board.specs.Boards.{index_of, word_in, words_at, thread_of, stamp_of, IsToldBy, IsBoard}

abbrev Whole : Type 0
Whole = State (Unit {0}) BoardView

-- The thread's seat has the view that u computes from the value found by the step, and its stamp rose. The second definition says the same
-- of the keeper, whose board isn't being closed.
abbrev pub StepTold : ℕ → (ℕ → SeatView) → ℕ → Me (Unit {0}) BoardView → Type 0
StepTold stamp u found new = (thread_of new.0 ≡ u found) × (stamp < stamp_of new.0)

abbrev pub KeeperTold : ℕ → (ℕ → KeeperView) → ℕ → Me (Unit {0}) BoardView → Type 0
KeeperTold stamp u found new = (new.0 ≡ Keeper (u found) [] (stamp_of new.0)) × (stamp < stamp_of new.0)

-- A board that meets the rule and whose word i is a number of 64 bits. The table has this number of slots, with which the step is made.
pub record IsFoundAt (n : ℕ × ℕ) (slots i : ℕ) (s : Whole) : Type 0 where
  pub board : IsBoard n s
  pub homes : length s.homes ≡ slots
  pub fits : slice_index s.words i < 18446744073709551616

-- on this board the thread of the place p has the view t, with any stamp
abbrev pub HasSeat : Whole → ℕ → SeatView → Type 0
HasSeat s p t = (g : ℕ) × (get_elem? s.views (suc p) ≡ some (Thread t g))

-- on this board the keeper has the view k, and the board isn't being closed
abbrev pub HasKeeper : Whole → KeeperView → Type 0
HasKeeper s k = (g : ℕ) × (get_elem? s.views 0 ≡ some (Keeper k [] g))

-- The rule lets the thread of the place p, which has the view t, step at the word i, and then gives the thread the view u.
abbrev pub ThreadMay : ℕ × ℕ → ℕ → ℕ → ℕ → SeatView → ℕ → (ℕ → ℕ) → (ℕ → SeatView) → Type 0
ThreadMay n slots p stamp t i f u = Allows (IsBoard n) slots (suc p) (Thread t stamp, []) i f (StepTold stamp u)

abbrev pub KeeperMay : ℕ × ℕ → ℕ → ℕ → KeeperView → ℕ → (ℕ → ℕ) → (ℕ → KeeperView) → Type 0
KeeperMay n slots stamp k i f u = Allows (IsBoard n) slots 0 (Keeper k [] stamp, []) i f (KeeperTold stamp u)

-- On each board on which the thread has its view, its step leaves the words as its new view says of that step.
abbrev pub AnswersStand : Type 0
AnswersStand = (n : ℕ × ℕ) (slots p i stamp : ℕ) (t : SeatView) (u : ℕ → SeatView) (f : ℕ → ℕ) (s : Whole) → IsFoundAt n slots i s → HasSeat s p t → ThreadMay n slots p stamp t i f u
    → IsToldBy (word_in n.0 (slice_set s.words i (f (slice_index s.words i)))) (u (slice_index s.words i)).place (u (slice_index s.words i)).last

-- The keeper's step also leaves the words as its new view says, on each board on which some thread has its seat.
abbrev pub KeeperAnswersStand : Type 0
KeeperAnswersStand = (n : ℕ × ℕ) (slots i stamp p : ℕ) (k : KeeperView) (t : SeatView) (u : ℕ → KeeperView) (f : ℕ → ℕ) (s : Whole) → IsFoundAt n slots i s → HasKeeper s k → HasSeat s p t
    → KeeperMay n slots stamp k i f u → IsToldBy (word_in n.0 (slice_set s.words i (f (slice_index s.words i)))) 0 (u (slice_index s.words i)).last

-- No step at a word other than the board's moment gives a thread a view whose last step read the moment. This holds whatever the step does
-- to its word and whatever value is taken for the moment, if there is a board on which the thread has its view and another round may be
-- made.
abbrev pub MomentsElsewhereRefused : Type 0
MomentsElsewhereRefused = (n : ℕ × ℕ) (slots p i stamp : ℕ) (k : KeeperView) (t : SeatView) (u : ℕ → SeatView) (f h : ℕ → ℕ) (s : Whole) → IsFoundAt n slots i s → HasKeeper s k → HasSeat s p t
    → k.moment + 1 < 2 ^ 40 → i ≢ index_of n.0 the_moment → ((x : ℕ) → (u x).last ≡ LoadMoment (h x)) → ¬ ThreadMay n slots p stamp t i f u

-- No step at a word other than a code's entry gives a thread the view that it loaded that entry. This holds if there is a board on which
-- the thread has its view and a code in the slot is in use.
abbrev pub EntriesElsewhereRefused : Type 0
EntriesElsewhereRefused = (n : ℕ × ℕ) (slots p i stamp : ℕ) (k : KeeperView) (t : SeatView) (u : ℕ → SeatView) (c : CodeId) (f h : ℕ → ℕ) (s : Whole) → IsFoundAt n slots i s → HasKeeper s k → HasSeat s p t
    → c.slot < n.0 → (slot_of k c.slot).state ≡ InUse → i ≢ index_of n.0 (entry_of c.slot) → ((x : ℕ) → (u x).last ≡ LoadEntry c (h x)) → ¬ ThreadMay n slots p stamp t i f u

-- No step at a word other than a place's moment gives the keeper the view that it looked at the place. This holds if there is a board on
-- which the keeper has its view and the place's thread hasn't published in this moment.
abbrev pub LooksElsewhereRefused : Type 0
LooksElsewhereRefused = (n : ℕ × ℕ) (slots p i stamp : ℕ) (k : KeeperView) (t : SeatView) (u : ℕ → KeeperView) (c : CodeId) (f h : ℕ → ℕ) (s : Whole) → IsFoundAt n slots i s → HasKeeper s k → HasSeat s p t
    → t.stored ≢ k.moment → i ≢ index_of n.0 (place_of p) → ((x : ℕ) → (u x).last ≡ LoadPlace c p (h x)) → ¬ KeeperMay n slots stamp k i f u

-- No step at a word other than a code's count gives the keeper the view that it weighed the code. This holds if there is a board on which
-- the keeper has its view and some thread counts the code.
abbrev pub WeightsElsewhereRefused : Type 0
WeightsElsewhereRefused = (n : ℕ × ℕ) (slots p i stamp : ℕ) (k : KeeperView) (t : SeatView) (u : ℕ → KeeperView) (c : CodeId) (f h : ℕ → ℕ) (s : Whole) → IsFoundAt n slots i s → HasKeeper s k → HasSeat s p t → n.1 ≤ 64
    → 0 < how_often t.counted c → i ≢ index_of n.0 (count_of c.slot) → ((x : ℕ) → (u x).last ≡ LoadCount c (h x)) → ¬ KeeperMay n slots stamp k i f u

-- The words that only the keeper writes, side by side.
abbrev pub IsEntry : Word → Type 0
IsEntry (entry_of k) = Unit {0}
IsEntry (count_of k) = ⊥
IsEntry (place_of p) = ⊥
IsEntry the_moment = ⊥

abbrev pub AreFarApart : ℕ → ℕ → Type 0
AreFarApart i j = (i + 8 ≤ j) ⊎ (j + 8 ≤ i)

-- Two words of which at least one isn't an entry are a cache line apart. Each word is a line away from the memory before and after the
-- words.
abbrev pub WordsApart : Type 0
WordsApart = (slots places : ℕ) (x y : Word) → IsWord slots places x → IsWord slots places y → x ≢ y → ¬ IsEntry x → AreFarApart (index_of slots x) (index_of slots y)

abbrev pub WordsInside : Type 0
WordsInside = (slots places : ℕ) (x : Word) → IsWord slots places x → (8 ≤ index_of slots x) × (index_of slots x + 8 ≤ words_at slots places)
