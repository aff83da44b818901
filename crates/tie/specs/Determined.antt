-- A step is deterministic. The words before it and the values that it meets determine the words after it. The views before it and these
-- values determine the views after it. The words before it determine the values that it meets.
use Rattle.std.specs.Prelude.{◌≡◌, ℕ, ◌<◌}
use Rattle.frames.specs.declared.board_rule.StepMade.{StepMade}
use Rattle.frames.specs.declared.board_rule.StepMade.TheVariants as step
use Rattle.thread_state.specs.declared.poll_rule.Deed.{Deed}
use Rattle.thread_state.specs.declared.poll_rule.Deed.TheVariants as deed
use Rattle.frames.specs.BoardWords.{Word, IsWord}
use Rattle.frames.specs.BoardRule.{BoardState, IsBoardKept}
use Rattle.frames.specs.BoardStep.{Actor, BoardStep}
use Rattle.thread_state.specs.PollRule.{PlaceState, RowStep}

-- 1. Boards

-- Two boards with these numbers of slots and places have the same words.
abbrev pub HasSameWords : ℕ → ℕ → BoardState → BoardState → Type 0
HasSameWords slots places a b = (y : Word) → IsWord slots places y → a.word y ≡ b.word y

-- The keepers of both boards have the same views, and so have the seats of each place.
pub record HasSameViews (slots places : ℕ) (a b : BoardState) : Type 0 where
  pub moments : a.now ≡ b.now
  pub slots_are : (k : ℕ) → k < slots → a.slot k ≡ b.slot k
  pub seats_are : (p : ℕ) → p < places → a.seat p ≡ b.seat p

pub record IsSameBoard (slots places : ℕ) (a b : BoardState) : Type 0 where
  pub words : HasSameWords slots places a b
  pub views : HasSameViews slots places a b

-- The step without the values that it met.
abbrev pub unmet : StepMade → StepMade
unmet step.Nothing = step.Nothing
unmet (step.LoadEntry c found) = step.LoadEntry c 0
unmet (step.StoreEntry c state) = step.StoreEntry c state
unmet (step.LoadMoment found) = step.LoadMoment 0
unmet (step.AddMoment found) = step.AddMoment 0
unmet (step.StorePlace n) = step.StorePlace n
unmet (step.AddCount c by found) = step.AddCount c by 0
unmet (step.SubCount c by found) = step.SubCount c by 0
unmet (step.LoadPlace c place found) = step.LoadPlace c place 0
unmet (step.LoadCount c found) = step.LoadCount c 0

-- One step of one seat, made on two boards, leaves equal words where the words were equal, and equal views where the views were equal.
abbrev pub BoardStepsAreDetermined : Type 0
BoardStepsAreDetermined = (slots places : ℕ) (old new other next : BoardState) (actor : Actor) (made : StepMade)
    → BoardStep slots places old new actor made → BoardStep slots places other next actor made
    → (HasSameWords slots places old other → HasSameWords slots places new next) × (HasSameViews slots places old other → HasSameViews slots places new next)

-- On boards that satisfy the rule: two steps that differ at most in the values that they met have met equal values where the words were
-- equal.
abbrev pub BoardStepsMeetTheWords : Type 0
BoardStepsMeetTheWords = (slots places : ℕ) (old new other next : BoardState) (actor : Actor) (made met : StepMade)
    → IsBoardKept slots places old → HasSameWords slots places old other
    → BoardStep slots places old new actor made → BoardStep slots places other next actor met → unmet made ≡ unmet met → made ≡ met

-- 2. Poll rows

-- Two rows with this number of places have the same words and the same armed and cleared numbers.
abbrev pub IsSameRow : ℕ → (ℕ → PlaceState) → (ℕ → PlaceState) → Type 0
IsSameRow places a b = (p : ℕ) → p < places → a p ≡ b p

abbrev pub HasSamePolls : ℕ → (ℕ → PlaceState) → (ℕ → PlaceState) → Type 0
HasSamePolls places a b = (p : ℕ) → p < places → (a p).word ≡ (b p).word

-- The deed without the value that it met.
abbrev pub unmet_deed : Deed → Deed
unmet_deed deed.Nothing = deed.Nothing
unmet_deed (deed.Load found) = deed.Load 0
unmet_deed (deed.Store place n) = deed.Store place n
unmet_deed (deed.Exchange n found) = deed.Exchange n 0

-- One step at one place, made on two rows, leaves equal words where the words were equal, and equal rows where the rows were equal. Two
-- steps that differ at most in the value that they met have met equal values.
abbrev pub RowStepsAreDetermined : Type 0
RowStepsAreDetermined = (places p : ℕ) (made met : Deed) (old new other next : ℕ → PlaceState)
    → RowStep places p made old new → RowStep places p met other next → unmet_deed made ≡ unmet_deed met → HasSamePolls places old other
    → (made ≡ met) × HasSamePolls places new next × (IsSameRow places old other → IsSameRow places new next)
