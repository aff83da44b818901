-- A body of which some items are read.
use Rattle.std.proofs.Common.{◌≡◌, ℕ, zero, suc, ◌+◌, ◌<◌, ◌≤◌, List, [], ◌∷◌, ◌++◌, length, drop, get_or, refl, sym, ap, subst, ◌∙◌, add-one, drop-cons, arith}
use Rattle.std.proofs.lemmas.List.{drop_all}
use Rattle.serde_json.specs.Data.{depth, items_depth}
use Rattle.serde_json.specs.View.{view, items_view}
use Rattle.serde_json.specs.declared.value.Value.{Value}
use Rattle.script.specs.declared.items.Item.{Item}
use Rattle.script.specs.declared.fault.ScriptFault.{ScriptFault}
use Rattle.script.specs.Body.{Body, finish}
use Rattle.script.specs.Outline.{Outline, end, sound, count}
use Rattle.script.specs.Json.{sketch, outline}
use Rattle.script.specs.Faults.{faults, IsFirst}
use Rattle.script.specs.View.{item_view, items_before, body_view}

-- Of the values, those below `number` are read, and are these items; the body stands at `place`, with `before` items of the script before it, and `now` before the next value.
pub record SoFar (origin : List ℕ) (before : ℕ) (values : List Value) (number : ℕ) (now : ℕ) (read : List Item) (here : List ℕ) : Type 0 where
  pub ok : (b : Body) → outline (items_view (drop number values)) ≡ sound b → outline (items_view values) ≡ sound (items_before read b)
  pub clean : faults origin 0 before (outline (items_view values)) ≡ faults origin number now (outline (items_view (drop number values)))
  pub items : before + count (outline (items_view values)) ≡ now + count (outline (items_view (drop number values)))
  pub place : here ≡ origin

items_before-push : (is : List Item) (i : Item) (b : Body) → items_before (is ++ i ∷ []) b ≡ items_before is (item_view i b)
items_before-push [] i b = refl
items_before-push (x ∷ is) i b = ap (item_view x) (items_before-push is i b)

outline-drop : (vs : List Value) (k : ℕ) (v : Value) → k < length vs → v ≡ get_or vs k v → outline (items_view (drop k vs)) ≡ sketch (view v) (outline (items_view (drop (k + 1) vs)))
outline-drop vs k v h e = ap (λ ws. outline (items_view ws)) (drop-cons vs k v h) ∙ rw (← e, add-one)

pub so_far_next : (origin : List ℕ) (before : ℕ) (vs : List Value) (k now : ℕ) (is : List Item) (here : List ℕ) → SoFar origin before vs k now is here
    → (v : Value) (i : Item) (then : ℕ) (there : List ℕ) → k < length vs → v ≡ get_or vs k v
    → ((b : Body) → sketch (view v) (sound b) ≡ sound (item_view i b))
    → ((rest : Outline) → faults here k now (sketch (view v) rest) ≡ faults here (k + 1) then rest)
    → ((rest : Outline) → now + count (sketch (view v) rest) ≡ then + count rest)
    → there ≡ here
    → SoFar origin before vs (k + 1) then (is ++ i ∷ []) there
so_far_next origin before vs k now is here s v i then there h e ok clean items back =
    let next = outline-drop vs k v h e in
    let rest = outline (items_view (drop (k + 1) vs)) in
    record {
      ok = λ b told. s.ok (item_view i b) (next ∙ ap (sketch (view v)) told ∙ ok b) ∙ ap sound (sym (items_before-push is i b));
      clean = s.clean ∙ ap (faults origin k now) next ∙ subst (λ p. faults p k now (sketch (view v) rest) ≡ faults p (k + 1) then rest) s.place (clean rest);
      items = s.items ∙ ap (λ o. now + count o) next ∙ items rest;
      place = back ∙ s.place;
    }

pub so_far_refused : (origin : List ℕ) (before : ℕ) (vs : List Value) (k now : ℕ) (is : List Item) (here : List ℕ) → SoFar origin before vs k now is here
    → (v : Value) (e : ScriptFault) → k < length vs → v ≡ get_or vs k v
    → ((rest : Outline) → IsFirst (faults here k now (sketch (view v) rest)) e)
    → IsFirst (faults origin 0 before (outline (items_view vs))) e
so_far_refused origin before vs k now is here s v e h is_v err =
    let rest = outline (items_view (drop (k + 1) vs)) in
    subst (λ fs. IsFirst fs e)
    (sym (s.clean ∙ ap (faults origin k now) (outline-drop vs k v h is_v) ∙ ap (λ p. faults p k now (sketch (view v) rest)) (sym s.place)))
    (err rest)

pub item_depth : (vs : List Value) (k : ℕ) (v : Value) → k < length vs → v ≡ get_or vs k v → depth (view v) ≤ items_depth (items_view vs)
item_depth [] k v h e = absurd (omega arith)
item_depth (w ∷ vs) zero v h e = rw e (omega arith)
item_depth (w ∷ vs) (suc k) v h e = omega (arith, item_depth vs k v (omega arith) e)

pub so_far_start : (origin : List ℕ) (before : ℕ) (vs : List Value) (is : List Item) → is ≡ [] → SoFar origin before vs 0 before is origin
so_far_start origin before vs is e = record { ok = λ b told. told ∙ ap (λ js. sound (items_before js b)) (sym e); clean = refl; items = refl; place = refl }

pub record Whole (origin : List ℕ) (before : ℕ) (values : List Value) (now : ℕ) (read : List Item) (here : List ℕ) : Type 0 where
  pub ok : outline (items_view values) ≡ sound (body_view read)
  pub clean : faults origin 0 before (outline (items_view values)) ≡ []
  pub items : now ≡ before + count (outline (items_view values))
  pub place : here ≡ origin

pub so_far_whole : (origin : List ℕ) (before : ℕ) (vs : List Value) (k now : ℕ) (is : List Item) (here : List ℕ) → SoFar origin before vs k now is here → length vs ≤ k
    → Whole origin before vs now is here
so_far_whole origin before vs k now is here s h =
    let none : drop k vs ≡ [] = drop_all k vs h in
    let rest : outline (items_view (drop k vs)) ≡ end = ap (λ ws. outline (items_view ws)) none in
    record {
      ok = s.ok finish rest;
      clean = s.clean ∙ ap (faults origin k now) rest;
      items = omega (arith, s.items, ap count rest);
      place = s.place;
    }
