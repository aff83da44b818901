-- The content of the marks, and which lines are drawn.
use Rattle.std.specs.Prelude.{◌≡◌, ℕ, ◌+◌, List, [], ◌∷◌, ◌++◌, length, Bool, true, ◌&&◌, nat_le, nat_lt, if◌then◌else◌, Option, None, Some}
use Rattle.run_picture.specs.declared.shapes.Outcome.{Outcome}
use Rattle.run_picture.specs.declared.shapes.Shape.{Shape}
use Rattle.run_picture.specs.declared.part.Part.{Part}

-- The content of a mark: the outcome of its line, the kind of the answer, and the line with its answer.
pub record Told : Type 0 where
  pub outcome : Outcome
  pub shape : Shape
  pub title : List ℕ

-- A drawn mark: the number of its line, and its content.
pub record Shown : Type 0 where
  pub line : ℕ
  pub told : Told

abbrev pub is_before : ℕ → Option ℕ → Bool
is_before line None = true
is_before line (Some end) = nat_lt line end

-- Whether the line of this number is drawn.
abbrev pub is_drawn : Part → ℕ → Bool
is_drawn part line = nat_le part.from line && is_before line part.end

-- The drawn marks among these lines, the first of which has this number.
abbrev pub drawn_from : Part → ℕ → List Told → List Shown
drawn_from part line [] = []
drawn_from part line (told ∷ all) =
    if is_drawn part line then record { line = line; told = told } ∷ drawn_from part (line + 1) all
    else drawn_from part (line + 1) all

-- The drawn marks after one more line.
abbrev pub grown : Part → ℕ → Told → List Shown → List Shown
grown part line told shown = if is_drawn part line then shown ++ record { line = line; told = told } ∷ [] else shown

-- The record of a run: how many lines it has had, and the marks that are drawn.
pub record Seen : Type 0 where
  pub part : Part
  pub lines : ℕ
  pub shown : List Shown

-- The run has had lines with marks of this content.
pub record IsTold (part : Part) (seen : Seen) (all : List Told) : Type 0 where
  pub same : seen.part ≡ part
  pub lines : seen.lines ≡ length all
  pub shown : seen.shown ≡ drawn_from part 1 all
