-- Added marks of one thread, and the numbers that the system keeps for each thread.
use Rattle.std.proofs.Common.{◌≡◌, ◌∙◌, sym, refl, ℕ, Bool, true, false, ◌&&◌, eqb, List, arith}
use Rattle.std.proofs.lemmas.Bool.Decides.{nat_tests}
use Rattle.system.specs.declared.answers.Answer.{Answer}
use Rattle.system.specs.declared.answers.Refusal.{Refusal}
use Rattle.system.specs.declared.thread.Marks.{Marks}
use Rattle.system.specs.Verdict.{Verdict, accepted, unless◌refuse◌then◌}
use Rattle.system.specs.Operations.{Requests, Mark, is_marked, with_mark}
use Rattle.system.specs.Places.{Effect}
use Rattle.system.specs.Marking.{SameMarks}

name_not : (name other : ℕ) → (name ≡ other → ⊥) → eqb name other ≡ false
name_not name other differ = by (eqb name other) refl
  where
    by : (b : Bool) → eqb name other ≡ b → eqb name other ≡ false
    by true e = absurd (differ (grind (arith, nat_tests)))
    by false e = e

and_false : (a : Bool) → a && false ≡ false
and_false true = refl
and_false false = refl

pub marked_other : (marks : List Mark) (n k name other : ℕ) → (name ≡ other → ⊥) → is_marked (with_mark marks n name) k other ≡ is_marked marks k other
marked_other marks n k name other differ = rw (name_not name other differ, and_false (eqb n k)) refl

-- A mark of another thread.
pub done_other : (m : Marks) (requests : Requests) (n name other : ℕ) → (name ≡ other → ⊥) → SameMarks m requests other → SameMarks m (record requests { done = with_mark requests.done n name }) other
done_other m requests n name other differ h = record {
  told_last = h.told_last;
  told_is = h.told_is;
  told_all = h.told_all;
  done_is = λ i o at told. marked_other requests.done n o.number name other differ ∙ h.done_is i o at told;
  done_old = h.done_old;
  cleared_is = h.cleared_is;
  cleared_old = h.cleared_old;
}

pub cleared_other : (m : Marks) (requests : Requests) (n name other : ℕ) → (name ≡ other → ⊥) → SameMarks m requests other → SameMarks m (record requests { cleared = with_mark requests.cleared n name }) other
cleared_other m requests n name other differ h = record {
  told_last = h.told_last;
  told_is = h.told_is;
  told_all = h.told_all;
  done_is = h.done_is;
  done_old = h.done_old;
  cleared_is = λ k told. marked_other requests.cleared n k name other differ ∙ h.cleared_is k told;
  cleared_old = h.cleared_old;
}

pub told_other : (m : Marks) (requests : Requests) (n name other : ℕ) → (name ≡ other → ⊥) → SameMarks m requests other → SameMarks m (record requests { told = with_mark requests.told n name }) other
told_other m requests n name other differ h = record {
  told_last = λ k told. h.told_last k (was k told);
  told_is = λ some. marked_other requests.told n m.told name other differ ∙ h.told_is some;
  told_all = λ i o at live. marked_other requests.told n o.number name other differ ∙ h.told_all i o at live;
  done_is = λ i o at told. h.done_is i o at (was o.number told);
  done_old = h.done_old;
  cleared_is = λ k told. h.cleared_is k (was k told);
  cleared_old = h.cleared_old;
}
  where
    was : (k : ℕ) → is_marked (with_mark requests.told n name) k other ≡ true → is_marked requests.told k other ≡ true
    was k told = sym (marked_other requests.told n k name other differ) ∙ told

-- an accepted chain of tests passed them
pub unless_yes : (b : Bool) (r : Refusal) (v : Verdict Effect) (e : Effect) (a : Answer) → (unless b refuse r then v) ≡ accepted e a → (b ≡ true) × (v ≡ accepted e a)
unless_yes true r v e a h = (refl, h)
unless_yes false r v e a h = cc
