-- The text of a picture, as far as its marks are concerned.
use Rattle.std.specs.Prelude.{◌≡◌, ℕ, List, [], ◌∷◌, ◌++◌, codes, decimal}
use Rattle.run_picture.specs.declared.shapes.Outcome.{Outcome}
use Rattle.run_picture.specs.declared.shapes.Outcome.TheVariants as outcome
use Rattle.run_picture.specs.declared.shapes.Shape.{Shape}
use Rattle.run_picture.specs.declared.shapes.Shape.TheVariants as shape
use Rattle.run_picture.specs.Told.{Told, Shown}

abbrev pub outcome_text : Outcome → List ℕ
outcome_text outcome.Bad = codes "bad"
outcome_text outcome.Refused = codes "refused"
outcome_text outcome.Accepted = codes "accepted"

abbrev pub shape_text : Shape → List ℕ
shape_text shape.BadLine = codes "badline"
shape_text shape.Refusal = codes "refusal"
shape_text shape.Step = codes "step"
shape_text shape.Cleared = codes "cleared"
shape_text shape.Started = codes "started"
shape_text shape.Exited = codes "exited"
shape_text shape.Change = codes "change"
shape_text shape.NoChange = codes "nochange"
shape_text shape.Go = codes "go"
shape_text shape.Left = codes "left"
shape_text shape.Stop = codes "stop"
shape_text shape.Entered = codes "entered"
shape_text shape.WrongMethod = codes "wrongmethod"
shape_text shape.Callback = codes "callback"
shape_text shape.Stack = codes "stack"
shape_text shape.Code = codes "code"
shape_text shape.NoCode = codes "nocode"
shape_text shape.Covered = codes "covered"
shape_text shape.Late = codes "late"
shape_text shape.NotLooked = codes "notlooked"
shape_text shape.Used = codes "used"
shape_text shape.Retired = codes "retired"
shape_text shape.Asked = codes "asked"
shape_text shape.Opened = codes "opened"
shape_text shape.Closed = codes "closed"
shape_text shape.Told = codes "told"
shape_text shape.Gone = codes "gone"
shape_text shape.Counted = codes "counted"
shape_text shape.Count = codes "count"
shape_text shape.State = codes "state"

-- The text before and after the title of a line's mark. Its classes name the outcome of the line and the kind of the answer.
abbrev pub mark_head : ℕ → Outcome → Shape → List ℕ
mark_head line outcome shape =
    codes "<g id='line" ++ (decimal line ++ (codes "' class='" ++ (outcome_text outcome ++ (codes " " ++ (shape_text shape ++ codes "'><title>")))))

abbrev pub mark_tail : Shape → ℕ → ℕ → List ℕ
mark_tail shape x y = codes "</title><use href='#" ++ (shape_text shape ++ (codes "' x='" ++ (decimal x ++ (codes "' y='" ++ (decimal y ++ codes "'/></g>\n")))))

-- The mark of a line, at any position.
pub record IsMark (shown : Shown) (text : List ℕ) : Type 0 where
  pub x : ℕ
  pub y : ℕ
  pub spelled : text ≡ mark_head shown.line shown.told.outcome shown.told.shape ++ shown.told.title ++ mark_tail shown.told.shape x y

-- The mark of a line, followed by the rest.
pub record MarkThen (shown : Shown) (Rest : List ℕ → Type 0) (text : List ℕ) : Type 0 where
  pub mark : List ℕ
  pub more : List ℕ
  pub is : IsMark shown mark
  pub rest : Rest more
  pub whole : text ≡ mark ++ more

-- The marks, each with the number of its line, and nothing else.
abbrev pub AreMarks : List Shown → List ℕ → Type 0
AreMarks [] text = text ≡ []
AreMarks (shown ∷ all) text = MarkThen shown (λ more. AreMarks all more) text

-- The mark is appended to the text.
pub record AddsMark (shown : Shown) (old new : List ℕ) : Type 0 where
  pub mark : List ℕ
  pub is : IsMark shown mark
  pub whole : new ≡ old ++ mark

-- These marks are appended to the text.
pub record AddsMarks (all : List Shown) (old new : List ℕ) : Type 0 where
  pub marks : List ℕ
  pub are : AreMarks all marks
  pub whole : new ≡ old ++ marks

-- A picture: the background text, the marks, and the end.
pub record IsPicture (all : List Shown) (text : List ℕ) : Type 0 where
  pub behind : List ℕ
  pub marks : List ℕ
  pub are : AreMarks all marks
  pub whole : text ≡ behind ++ marks ++ codes "</svg>\n"
