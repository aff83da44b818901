-- A script of which some methods are checked and laid out.
use Rattle.std.proofs.Common.{◌≡◌, ℕ, suc, ◌+◌, ◌<◌, ◌≤◌, List, [], ◌∷◌, ◌++◌, length, drop, get_or, map, refl, sym, ap, subst, ◌∙◌, append_assoc, append-nil, add-one, drop-cons}
use Rattle.std.proofs.lemmas.List.{drop_all}
use Rattle.script.specs.declared.code.Op.{Op}
use Rattle.script.specs.declared.items.Method.{Method}
use Rattle.script.specs.declared.fault.ScriptFault.{ScriptFault}
use Rattle.script.specs.Checks.{body_faults, bodies_faults}
use Rattle.script.specs.Faults.{IsFirst}
use Rattle.script.specs.Layout.{routine}
use Rattle.script.proofs.ItemRead.{is_first-append}
use Rattle.script.proofs.MethodsSoFar.{method_view}

pub record ScriptSoFar (count : ℕ) (methods : List Method) (number : ℕ) (laid : List (List Op)) (here : List ℕ) : Type 0 where
  pub steps : laid ++ map routine (map method_view (drop number methods)) ≡ map routine (map method_view methods)
  pub clean : bodies_faults count 0 (map method_view methods) ≡ bodies_faults count number (map method_view (drop number methods))
  pub place : here ≡ []

method-drop : (ms : List Method) (k : ℕ) (m : Method) → k < length ms → m ≡ get_or ms k m → drop k ms ≡ m ∷ drop (k + 1) ms
method-drop ms k m h e = drop-cons ms k m h ∙ rw (← e, add-one)

pub script_start : (count : ℕ) (ms : List Method) (laid : List (List Op)) (here : List ℕ) → laid ≡ [] → here ≡ [] → ScriptSoFar count ms 0 laid here
script_start count ms laid here e p = record { steps = rw e; clean = refl; place = p }

pub script_next : (count : ℕ) (ms : List Method) (k : ℕ) (laid : List (List Op)) (here : List ℕ) → ScriptSoFar count ms k laid here
    → (m : Method) (r : List Op) (there : List ℕ) → k < length ms → m ≡ get_or ms k m
    → r ≡ routine (method_view m)
    → body_faults count 0 (k ∷ []) 0 (method_view m) ≡ []
    → there ≡ []
    → ScriptSoFar count ms (k + 1) (laid ++ r ∷ []) there
script_next count ms k laid here s m r there h e is clean back =
    let next = method-drop ms k m h e in
    let rest = map method_view (drop (k + 1) ms) in
    record {
      steps = append_assoc laid (r ∷ []) (map routine rest) ∙ ap (λ q. laid ++ (q ∷ map routine rest)) is ∙ ap (λ ns. laid ++ map routine (map method_view ns)) (sym next) ∙ s.steps;
      clean = s.clean ∙ ap (λ ns. bodies_faults count k (map method_view ns)) next ∙ ap (λ f. f ++ bodies_faults count (k + 1) rest) clean;
      place = back;
    }

pub script_refused : (count : ℕ) (ms : List Method) (k : ℕ) (laid : List (List Op)) (here : List ℕ) → ScriptSoFar count ms k laid here
    → (m : Method) (e : ScriptFault) → k < length ms → m ≡ get_or ms k m
    → IsFirst (body_faults count 0 (k ∷ []) 0 (method_view m)) e
    → IsFirst (bodies_faults count 0 (map method_view ms)) e
script_refused count ms k laid here s m e h is_m err =
    let rest = map method_view (drop (k + 1) ms) in
    subst (λ fs. IsFirst fs e) (sym (s.clean ∙ ap (λ ns. bodies_faults count k (map method_view ns)) (method-drop ms k m h is_m)))
    (is_first-append (body_faults count 0 (k ∷ []) 0 (method_view m)) (bodies_faults count (k + 1) rest) e err)

pub script_whole : (count : ℕ) (ms : List Method) (k : ℕ) (laid : List (List Op)) (here : List ℕ) → ScriptSoFar count ms k laid here → length ms ≤ k
    → (laid ≡ map routine (map method_view ms)) × (bodies_faults count 0 (map method_view ms) ≡ [])
script_whole count ms k laid here s h =
    let none = ap (map method_view) (drop_all k ms h) in
    (sym (append-nil laid) ∙ ap (λ bs. laid ++ map routine bs) (sym none) ∙ s.steps, s.clean ∙ ap (bodies_faults count k) none)

pub length-bodies : (ms : List Method) → length (map method_view ms) ≡ length ms
length-bodies [] = refl
length-bodies (m ∷ ms) = ap suc (length-bodies ms)
