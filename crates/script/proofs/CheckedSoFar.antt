-- A body of which some items are checked and laid out.
use Rattle.std.proofs.Common.{◌≡◌, ℕ, ◌+◌, ◌<◌, ◌≤◌, List, [], ◌++◌, length, drop, get_or, sym, ap, subst, ◌∙◌, append-nil, add-one, drop-cons}
use Rattle.std.proofs.lemmas.List.{drop_all}
use Rattle.script.specs.declared.code.Op.{Op}
use Rattle.script.specs.declared.items.Item.{Item}
use Rattle.script.specs.declared.fault.ScriptFault.{ScriptFault}
use Rattle.script.specs.Body.{Body}
use Rattle.script.specs.Checks.{body_faults}
use Rattle.script.specs.Faults.{IsFirst}
use Rattle.script.specs.Layout.{ops}
use Rattle.script.specs.View.{item_view, body_view}

-- The items below `number` are checked, and laid out after the steps that were there before.
pub record CheckedSoFar (count level : ℕ) (origin : List ℕ) (before : List Op) (items : List Item) (number : ℕ) (now : List Op) (here : List ℕ) : Type 0 where
  pub steps : before ++ ops (length before) level (body_view items) ≡ now ++ ops (length now) level (body_view (drop number items))
  pub clean : body_faults count level origin 0 (body_view items) ≡ body_faults count level origin number (body_view (drop number items))
  pub place : here ≡ origin

body-drop : (is : List Item) (k : ℕ) (i : Item) → k < length is → i ≡ get_or is k i → body_view (drop k is) ≡ item_view i (body_view (drop (k + 1) is))
body-drop is k i h e = ap body_view (drop-cons is k i h) ∙ rw (← e, add-one)

pub checked_next : (count level : ℕ) (origin : List ℕ) (before : List Op) (is : List Item) (k : ℕ) (now : List Op) (here : List ℕ) → CheckedSoFar count level origin before is k now here
    → (i : Item) (then : List Op) (there : List ℕ) → k < length is → i ≡ get_or is k i
    → ((rest : Body) → now ++ ops (length now) level (item_view i rest) ≡ then ++ ops (length then) level rest)
    → ((rest : Body) → body_faults count level here k (item_view i rest) ≡ body_faults count level here (k + 1) rest)
    → there ≡ here
    → CheckedSoFar count level origin before is (k + 1) then there
checked_next count level origin before is k now here s i then there h e steps clean back =
    let next = body-drop is k i h e in
    let rest = body_view (drop (k + 1) is) in
    record {
      steps = s.steps ∙ ap (λ b. now ++ ops (length now) level b) next ∙ steps rest;
      clean = s.clean ∙ ap (body_faults count level origin k) next ∙ subst (λ p. body_faults count level p k (item_view i rest) ≡ body_faults count level p (k + 1) rest) s.place (clean rest);
      place = back ∙ s.place;
    }

pub checked_refused : (count level : ℕ) (origin : List ℕ) (before : List Op) (is : List Item) (k : ℕ) (now : List Op) (here : List ℕ) → CheckedSoFar count level origin before is k now here
    → (i : Item) (e : ScriptFault) → k < length is → i ≡ get_or is k i
    → ((rest : Body) → IsFirst (body_faults count level here k (item_view i rest)) e)
    → IsFirst (body_faults count level origin 0 (body_view is)) e
checked_refused count level origin before is k now here s i e h is_i err =
    let rest = body_view (drop (k + 1) is) in
    subst (λ fs. IsFirst fs e)
    (sym (s.clean ∙ ap (body_faults count level origin k) (body-drop is k i h is_i) ∙ ap (λ p. body_faults count level p k (item_view i rest)) (sym s.place)))
    (err rest)

pub record WholeChecked (count level : ℕ) (origin : List ℕ) (before : List Op) (items : List Item) (now : List Op) (here : List ℕ) : Type 0 where
  pub steps : now ≡ before ++ ops (length before) level (body_view items)
  pub clean : body_faults count level origin 0 (body_view items) ≡ []
  pub place : here ≡ origin

pub checked_whole : (count level : ℕ) (origin : List ℕ) (before : List Op) (is : List Item) (k : ℕ) (now : List Op) (here : List ℕ) → CheckedSoFar count level origin before is k now here
    → length is ≤ k → WholeChecked count level origin before is now here
checked_whole count level origin before is k now here s h =
    let none = ap body_view (drop_all k is h) in
    record {
      steps = sym (s.steps ∙ ap (λ b. now ++ ops (length now) level b) none ∙ append-nil now);
      clean = s.clean ∙ ap (body_faults count level origin k) none;
      place = s.place;
    }
