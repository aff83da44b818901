-- A script of which some methods are read.
use Rattle.std.proofs.Common.{◌≡◌, ℕ, suc, ◌+◌, ◌<◌, ◌≤◌, List, [], ◌∷◌, ◌++◌, length, drop, get_or, map, option_map, refl, sym, ap, ◌∙◌, append-nil, subst, add-one, drop-cons}
use Rattle.std.proofs.lemmas.List.{drop_all}
use Rattle.serde_json.specs.Events.{items_len}
use Rattle.serde_json.specs.Find.{as_array}
use Rattle.serde_json.specs.View.{view, items_view}
use Rattle.serde_json.specs.declared.value.Value.{Value}
use Rattle.script.specs.declared.items.Method.{Method}
use Rattle.script.specs.declared.fault.ScriptFault.{ScriptFault}
use Rattle.script.specs.Body.{Body}
use Rattle.script.specs.Json.{outline, method_outlines, some_sound}
use Rattle.script.specs.Faults.{method_faults, method_count, methods_faults, IsFirst}
use Rattle.script.specs.View.{body_view}
use Rattle.script.proofs.ItemRead.{is_first-append}

abbrev pub method_view : Method → Body
method_view m = body_view m.items.items

-- those below `number` are read, with `now` items
pub record MethodsSoFar (values : List Value) (number now : ℕ) (read : List Method) (here : List ℕ) : Type 0 where
  pub ok : (bs : List Body) → method_outlines (items_view (drop number values)) ≡ map some_sound bs → method_outlines (items_view values) ≡ map some_sound (map method_view read ++ bs)
  pub clean : methods_faults 0 0 (items_view values) ≡ methods_faults number now (items_view (drop number values))
  pub place : here ≡ []

drop-view : (vs : List Value) (k : ℕ) (v : Value) → k < length vs → v ≡ get_or vs k v → drop k vs ≡ v ∷ drop (k + 1) vs
drop-view vs k v h e = drop-cons vs k v h ∙ rw (← e, add-one)

map-push : (ms : List Method) (m : Method) (bs : List Body) → map method_view (ms ++ m ∷ []) ++ bs ≡ map method_view ms ++ (method_view m ∷ bs)
map-push [] m bs = refl
map-push (x ∷ ms) m bs = ap (λ t. method_view x ∷ t) (map-push ms m bs)

pub methods_start : (vs : List Value) (ms : List Method) (now : ℕ) (here : List ℕ) → ms ≡ [] → now ≡ 0 → here ≡ [] → MethodsSoFar vs 0 now ms here
methods_start vs ms now here e z p = record {
  ok = λ bs told. told ∙ ap (λ js. map some_sound (map method_view js ++ bs)) (sym e);
  clean = ap (λ n. methods_faults 0 n (items_view vs)) (sym z);
  place = p;
}

pub methods_next : (vs : List Value) (k now : ℕ) (ms : List Method) (here : List ℕ) → MethodsSoFar vs k now ms here
    → (v : Value) (m : Method) (then : ℕ) (there : List ℕ) → k < length vs → v ≡ get_or vs k v
    → option_map outline (as_array (view v)) ≡ some_sound (method_view m)
    → method_faults k now (as_array (view v)) ≡ []
    → then ≡ now + method_count (as_array (view v))
    → there ≡ []
    → MethodsSoFar vs (k + 1) then (ms ++ m ∷ []) there
methods_next vs k now ms here s v m then there h e ok clean items back =
    let next = drop-view vs k v h e in
    let rest = items_view (drop (k + 1) vs) in
    record {
      ok = λ bs told. s.ok (method_view m ∷ bs) (ap (λ ws. method_outlines (items_view ws)) next ∙ ap (λ o. o ∷ method_outlines rest) ok ∙ ap (λ t. some_sound (method_view m) ∷ t) told) ∙ ap (map some_sound) (sym (map-push ms m bs));
      clean = s.clean ∙ ap (λ ws. methods_faults k now (items_view ws)) next ∙ ap (λ f. f ++ methods_faults (k + 1) (now + method_count (as_array (view v))) rest) clean ∙ ap (λ n. methods_faults (k + 1) n rest) (sym items);
      place = back;
    }

pub methods_refused : (vs : List Value) (k now : ℕ) (ms : List Method) (here : List ℕ) → MethodsSoFar vs k now ms here
    → (v : Value) (e : ScriptFault) → k < length vs → v ≡ get_or vs k v
    → IsFirst (method_faults k now (as_array (view v))) e
    → IsFirst (methods_faults 0 0 (items_view vs)) e
methods_refused vs k now ms here s v e h is_v err =
    let rest = items_view (drop (k + 1) vs) in
    subst (λ fs. IsFirst fs e) (sym (s.clean ∙ ap (λ ws. methods_faults k now (items_view ws)) (drop-view vs k v h is_v)))
    (is_first-append (method_faults k now (as_array (view v))) (methods_faults (k + 1) (now + method_count (as_array (view v))) rest) e err)

pub methods_whole : (vs : List Value) (k now : ℕ) (ms : List Method) (here : List ℕ) → MethodsSoFar vs k now ms here → length vs ≤ k
    → (method_outlines (items_view vs) ≡ map some_sound (map method_view ms)) × (methods_faults 0 0 (items_view vs) ≡ [])
methods_whole vs k now ms here s h =
    let none : drop k vs ≡ [] = drop_all k vs h in (
      s.ok [] (ap (λ ws. method_outlines (items_view ws)) none) ∙ ap (map some_sound) (append-nil (map method_view ms)),
      s.clean ∙ ap (λ ws. methods_faults k now (items_view ws)) none,
    )

pub items_len-items_view : (vs : List Value) → items_len (items_view vs) ≡ length vs
items_len-items_view [] = refl
items_len-items_view (v ∷ vs) = ap suc (items_len-items_view vs)
