-- Marks behind marks.
use Rattle.std.proofs.Common.{◌≡◌, ℕ, ◌+◌, ◌<◌, ◌∙◌, sym, List, [], ◌∷◌, ◌++◌, length, map, take, get_or, refl, ap, subst, append_assoc}
use Rattle.std.specs.Prelude.{codes}
use Rattle.std.proofs.lemmas.List.{append-nil, map_more, map-append}
use Rattle.run_picture.specs.declared.marks.Mark.{Mark}
use Rattle.run_picture.specs.declared.shapes.Deed.{Deed}
use Rattle.replay.specs.declared.engine.Reply.{Reply}
use Rattle.run_picture.specs.Told.{Told, Shown}
use Rattle.run_picture.specs.Marks.{told_by, outcome_of, shape_of, title_of}
use Rattle.run_picture.specs.Runs.{told_of, shown_of, shown_by}
use Rattle.run_picture.specs.Drawn.{mark_head, mark_tail, IsMark, AreMarks, AddsMark, AddsMarks, IsPicture}
use Rattle.run_picture.specs.Outcome.{HoldsPicture, IsPage}

-- One mark more of a run.
pub shown_more : (old new : List Mark) (mark : Mark) (line : List ℕ) (deed : Deed) (reply : Reply) (n : ℕ) → new ≡ old ++ mark ∷ [] → mark.line ≡ n → mark.outcome ≡ outcome_of reply → mark.shape ≡ shape_of deed reply → mark.title.items ≡ title_of line reply → shown_by new ≡ shown_by old ++ record { line = n; told = told_by line deed reply } ∷ []
shown_more old new mark line deed reply n more number outcome shape title =
    ap shown_by more ∙ map-append shown_of old (mark ∷ [])
    ∙ ap (λ k. shown_by old ++ record { line = k; told = told_of mark } ∷ []) number
    ∙ ap (λ o. shown_by old ++ record { line = n; told = record { outcome = o; shape = mark.shape; title = mark.title.items } } ∷ []) outcome
    ∙ ap (λ s. shown_by old ++ record { line = n; told = record { outcome = outcome_of reply; shape = s; title = mark.title.items } } ∷ []) shape
    ∙ ap (λ t. shown_by old ++ record { line = n; told = record { outcome = outcome_of reply; shape = shape_of deed reply; title = t } } ∷ []) title

pub no_marks : (text : List ℕ) → AddsMarks [] text text
no_marks text = record { marks = []; are = refl; whole = sym (append-nil text) }

-- The marks of two lists, one behind the other.
one_more : (all : List Shown) (shown : Shown) (marks mark : List ℕ) → AreMarks all marks → IsMark shown mark → AreMarks (all ++ shown ∷ []) (marks ++ mark)
one_more [] shown marks mark none is = record {
  mark = mark;
  more = [];
  is = is;
  rest = refl;
  whole = ap (λ z. z ++ mark) none ∙ sym (append-nil mark);
}
one_more (first ∷ all) shown marks mark are is = record {
  mark = are.mark;
  more = are.more ++ mark;
  is = are.is;
  rest = one_more all shown are.more mark are.rest is;
  whole = ap (λ z. z ++ mark) are.whole ∙ append_assoc are.mark are.more mark;
}

pub mark_more : (all : List Shown) (shown : Shown) (old mid new : List ℕ) → AddsMarks all old mid → AddsMark shown mid new → AddsMarks (all ++ shown ∷ []) old new
mark_more all shown old mid new before here = record {
  marks = before.marks ++ here.mark;
  are = one_more all shown before.marks here.mark before.are here.is;
  whole = here.whole ∙ ap (λ z. z ++ here.mark) before.whole ∙ append_assoc old before.marks here.mark;
}

-- One mark more of a list.
pub next_mark : (marks : List Mark) (i : ℕ) (mark : Mark) (old mid new : List ℕ) → i < length marks → mark ≡ get_or marks i mark → AddsMarks (shown_by (take i marks)) old mid → AddsMark (shown_of mark) mid new → AddsMarks (shown_by (take (i + 1) marks)) old new
next_mark marks i mark old mid new below is before more =
    let grown : shown_by (take (i + 1) marks) ≡ shown_by (take i marks) ++ shown_of mark ∷ []
    = map_more shown_of marks i mark below ∙ ap (λ m. shown_by (take i marks) ++ shown_of m ∷ []) (sym is) in
    subst (λ (all : List Shown). AddsMarks all old new) (sym grown) (mark_more (shown_by (take i marks)) (shown_of mark) old mid new before more)

-- What stands before a title, the title and what stands behind it are a mark.
pub one_mark : (shown : Shown) (x y : ℕ) (head tail old a b new : List ℕ) → head ≡ mark_head shown.line shown.told.outcome shown.told.shape → tail ≡ mark_tail shown.told.shape x y → a ≡ old ++ head → b ≡ a ++ shown.told.title → new ≡ b ++ tail → AddsMark shown old new
one_mark shown x y head tail old a b new h t e f k = record {
  mark = head ++ shown.told.title ++ tail;
  is = record {
    x = x;
    y = y;
    spelled = ap (λ z. z ++ shown.told.title ++ tail) h ∙ ap (λ z. mark_head shown.line shown.told.outcome shown.told.shape ++ shown.told.title ++ z) t;
  };
  whole = k ∙ ap (λ z. z ++ tail) f ∙ ap (λ z. z ++ shown.told.title ++ tail) e ∙ ap (λ z. z ++ tail) (append_assoc old head shown.told.title) ∙ append_assoc old (head ++ shown.told.title) tail;
}

-- All of it, with the end behind it.
pub whole_picture : (all : List Shown) (behind marked text : List ℕ) → AddsMarks all behind marked → text ≡ marked ++ codes "</svg>\n" → IsPicture all text
whole_picture all behind marked text added end = record {
  behind = behind;
  marks = added.marks;
  are = added.are;
  whole = end ∙ ap (λ z. z ++ codes "</svg>\n") added.whole;
}

-- What stands before a picture, the picture and what stands behind it hold the picture.
pub holds : (head picture tail none a b page : List ℕ) → none ≡ [] → a ≡ none ++ head → b ≡ a ++ picture → page ≡ b ++ tail → HoldsPicture picture page
holds head picture tail none a b page start e f k = record {
  head = head;
  tail = tail;
  whole = k ∙ ap (λ z. z ++ tail) f ∙ ap (λ z. z ++ picture ++ tail) e ∙ ap (λ z. z ++ head ++ picture ++ tail) start;
}

pub page_is : (shown : List Shown) (picture page : List ℕ) → IsPicture shown picture → HoldsPicture picture page → IsPage shown page
page_is shown picture page is held = record { picture = picture; is = is; held = held }
