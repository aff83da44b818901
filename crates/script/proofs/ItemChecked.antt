-- One item that was checked and laid out.
use Rattle.std.proofs.Common.{◌≡◌, ℕ, ◌+◌, ◌<◌, ◌≤◌, List, [], ◌∷◌, ◌++◌, Vec, Global, length, nat_lt, nat_le, true, sym, ap, subst, ◌∙◌, append_assoc, length-append, arith}
use Rattle.std.proofs.lemmas.Bool.Decides.{nat_tests}
use Rattle.script.specs.declared.items.Action.{Action}
use Rattle.script.specs.declared.items.Item as item
use Rattle.script.specs.declared.code.Op.{Op}
use Rattle.script.specs.declared.code.Op.TheVariants as op
use Rattle.script.specs.declared.fault.ScriptFault.{ScriptFault}
use Rattle.script.specs.Body.{Body}
use Rattle.script.specs.Checks.{action_faults, loop_faults, body_faults}
use Rattle.script.specs.Faults.{IsFirst}
use Rattle.script.specs.Layout.{ops}
use Rattle.script.specs.View.{item_view, body_view}
use Rattle.script.proofs.ItemRead.{view-Action, view-Loop, is_first-append}

pub record ItemChecked (count level : ℕ) (place : List ℕ) (k : ℕ) (before now : List Op) (i : item.Item) : Type 0 where
  pub steps : (rest : Body) → before ++ ops (length before) level (item_view i rest) ≡ now ++ ops (length now) level rest
  pub clean : (rest : Body) → body_faults count level place k (item_view i rest) ≡ body_faults count level place (k + 1) rest

length-push : (xs : List Op) (x : Op) → length (xs ++ x ∷ []) ≡ length xs + 1
length-push xs x = omega (arith, length-append xs (x ∷ []))

pub checked_action : (count level : ℕ) (place : List ℕ) (k : ℕ) (before now : List Op) (a : Action) (i : item.Item) → i ≡ item.Action a
    → action_faults count (place ++ k ∷ []) a ≡ [] → now ≡ before ++ op.Action a ∷ []
    → ItemChecked count level place k before now i
checked_action count level place k before now a i is none pushed = record {
  steps = λ rest. rw (is, view-Action a rest, pushed, length-push before (op.Action a)) (sym (append_assoc before (op.Action a ∷ []) (ops (length before + 1) level rest)));
  clean = λ rest. rw (is, view-Action a rest) (ap (λ f. f ++ body_faults count level place (k + 1) rest) none);
}

regroup : (a b : List Op) (x : Op) (t : List Op) → a ++ (b ++ x ∷ t) ≡ ((a ++ b) ++ x ∷ []) ++ t
regroup a b x t = simp append_assoc

fine : (level : ℕ) (place : List ℕ) (n : ℕ) → 0 < n → n ≤ 1000000 → level < 8 → loop_faults level place n ≡ []
fine level place n p q r =
    let some : nat_lt 0 n ≡ true = grind (nat_tests, arith) in
    let few : nat_le n 1000000 ≡ true = grind (nat_tests, arith) in
    let shallow : nat_lt level 8 ≡ true = grind (nat_tests, arith) in
    rw (some, few, shallow)

pub checked_loop : (count level : ℕ) (place : List ℕ) (k : ℕ) (before inner now : List Op) (n : ℕ) (v : Vec item.Item Global) (i : item.Item) → i ≡ item.Loop n v
    → 0 < n → n ≤ 1000000 → level < 8
    → inner ≡ before ++ ops (length before) (level + 1) (body_view v.items)
    → now ≡ inner ++ op.Edge n (length before) level ∷ []
    → body_faults count (level + 1) (place ++ k ∷ []) 0 (body_view v.items) ≡ []
    → ItemChecked count level place k before now i
checked_loop count level place k before inner now n v i is some few shallow laid pushed none =
    let b = body_view v.items in
    let edge = op.Edge n (length before) level in
    let body = ops (length before) (level + 1) b in
    let len : length now ≡ length before + length body + 1 = omega (arith, ap length pushed, length-push inner edge, ap length laid, length-append before body) in
    record {
      steps = λ rest. rw (is, view-Loop n v rest, len, pushed, laid) (regroup before body edge (ops (length before + length body + 1) level rest));
      clean = λ rest. rw (is, view-Loop n v rest)
          (ap (λ f. f ++ body_faults count (level + 1) (place ++ k ∷ []) 0 b ++ body_faults count level place (k + 1) rest) (fine level (place ++ k ∷ []) n some few shallow)
          ∙ ap (λ f. f ++ body_faults count level place (k + 1) rest) none);
    }

-- the first fault of an action is the first of the body from there on
pub action_first : (count level : ℕ) (place : List ℕ) (k : ℕ) (a : Action) (i : item.Item) (e : ScriptFault) (rest : Body) → i ≡ item.Action a
    → IsFirst (action_faults count (place ++ k ∷ []) a) e → IsFirst (body_faults count level place k (item_view i rest)) e
action_first count level place k a i e rest is err =
    rw (is, view-Action a rest) (is_first-append (action_faults count (place ++ k ∷ []) a) (body_faults count level place (k + 1) rest) e err)

-- and so of what is inside a loop
pub loop_first : (count level : ℕ) (place : List ℕ) (k : ℕ) (n : ℕ) (v : Vec item.Item Global) (i : item.Item) (e : ScriptFault) (rest : Body) → i ≡ item.Loop n v
    → 0 < n → n ≤ 1000000 → level < 8
    → IsFirst (body_faults count (level + 1) (place ++ k ∷ []) 0 (body_view v.items)) e → IsFirst (body_faults count level place k (item_view i rest)) e
loop_first count level place k n v i e rest is some few shallow err =
    let b = body_view v.items in
    rw (is, view-Loop n v rest)
    (subst (λ f. IsFirst (f ++ body_faults count (level + 1) (place ++ k ∷ []) 0 b ++ body_faults count level place (k + 1) rest) e) (sym (fine level (place ++ k ∷ []) n some few shallow))
    (is_first-append (body_faults count (level + 1) (place ++ k ∷ []) 0 b) (body_faults count level place (k + 1) rest) e err))
