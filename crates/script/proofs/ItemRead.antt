-- One item that was read, by its shape.
use Rattle.std.proofs.Common.{◌≡◌, ℕ, ◌+◌, ◌<◌, List, [], ◌∷◌, ◌++◌, Some, Vec, Global, inl, inr, nat_lt, true, sym, ap, subst, ◌∙◌, arith, rules}
use Rattle.std.proofs.lemmas.Bool.Decides.{nat_tests}
use Rattle.serde_json.specs.Data.{Data, Items}
use Rattle.script.specs.declared.items.Action.{Action}
use Rattle.script.specs.declared.items.Item as item
use Rattle.script.specs.declared.fault.ScriptFault.{ScriptFault}
use Rattle.script.specs.Body.{Body, act, loop}
use Rattle.script.specs.Outline.{Outline, turns, sound, count}
use Rattle.script.specs.Shape.{one, many, shape}
use Rattle.script.specs.Json.{sketch, outline}
use Rattle.script.specs.Faults.{faults, crowded, first, IsFirst}
use Rattle.script.specs.View.{item_view, body_view}
use Rattle.script.proofs.Sketches.{sketch_one, sketch_many}

-- The value is this item, number k at this place, with so many items of the script before it, and so many with it.
pub record ItemRead (d : Data) (place : List ℕ) (k before now : ℕ) (i : item.Item) : Type 0 where
  pub ok : (b : Body) → sketch d (sound b) ≡ sound (item_view i b)
  pub clean : (rest : Outline) → faults place k before (sketch d rest) ≡ faults place (k + 1) now rest
  pub items : (rest : Outline) → before + count (sketch d rest) ≡ now + count rest

roomy : (before : ℕ) (place : List ℕ) → before < 65536 → crowded before place ≡ []
roomy before place h = let e : nat_lt before 65536 ≡ true = grind (nat_tests, arith) in rw e

pub view-Action : (a : Action) (b : Body) → item_view (item.Action a) b ≡ act a b
view-Action a b = search (rules, item.the_lemmas)

pub view-Loop : (n : ℕ) (v : Vec item.Item Global) (b : Body) → item_view (item.Loop n v) b ≡ loop n (body_view v.items) b
view-Loop n v b = search (rules, item.the_lemmas)

pub item_one : (d : Data) (place : List ℕ) (k before : ℕ) (a : Action) (i : item.Item) → shape d ≡ Some (one a) → before < 65536 → i ≡ item.Action a
    → ItemRead d place k before (before + 1) i
item_one d place k before a i h room is = record {
  ok = λ b. sketch_one d a (sound b) h ∙ ap sound (sym (ap (λ j. item_view j b) is ∙ view-Action a b));
  clean = λ rest. ap (faults place k before) (sketch_one d a rest h) ∙ ap (λ c. c ++ faults place (k + 1) (before + 1) rest) (roomy before (place ++ k ∷ []) room);
  items = λ rest. omega (arith, ap count (sketch_one d a rest h));
}

pub item_many : (d : Data) (place : List ℕ) (k before now : ℕ) (n : ℕ) (ds : Items) (v : Vec item.Item Global) (i : item.Item)
    → shape d ≡ Some (many n ds) → before < 65536 → i ≡ item.Loop n v
    → outline ds ≡ sound (body_view v.items) → faults (place ++ k ∷ []) 0 (before + 1) (outline ds) ≡ [] → now ≡ before + 1 + count (outline ds)
    → ItemRead d place k before now i
item_many d place k before now n ds v i h room is ok clean items = record {
  ok = λ b. sketch_many d n ds (sound b) h ∙ ap (λ o. turns n o (sound b)) ok ∙ ap sound (sym (ap (λ j. item_view j b) is ∙ view-Loop n v b));
  clean = λ rest. ap (faults place k before) (sketch_many d n ds rest h)
      ∙ ap (λ c. c ++ faults (place ++ k ∷ []) 0 (before + 1) (outline ds) ++ faults place (k + 1) (before + 1 + count (outline ds)) rest) (roomy before (place ++ k ∷ []) room)
      ∙ ap (λ c. c ++ faults place (k + 1) (before + 1 + count (outline ds)) rest) clean
      ∙ ap (λ m. faults place (k + 1) m rest) (sym items);
  items = λ rest. omega (arith, ap count (sketch_many d n ds rest h), items);
}

first-append : (xs ys : List ScriptFault) (e : ScriptFault) → first xs ≡ Some e → first (xs ++ ys) ≡ Some e
first-append [] ys e h = absurd (cc)
first-append (x ∷ xs) ys e h = h

pub is_first-append : (xs ys : List ScriptFault) (e : ScriptFault) → IsFirst xs e → IsFirst (xs ++ ys) e
is_first-append xs ys e h = elim h [ inl p ↦ inl p | inr p ↦ inr (first-append xs ys e p) ]

-- the first fault inside a loop is the first of the loop
pub inside_first : (d : Data) (place : List ℕ) (k before : ℕ) (n : ℕ) (ds : Items) (e : ScriptFault) (rest : Outline)
    → shape d ≡ Some (many n ds) → before < 65536 → IsFirst (faults (place ++ k ∷ []) 0 (before + 1) (outline ds)) e
    → IsFirst (faults place k before (sketch d rest)) e
inside_first d place k before n ds e rest h room err =
    subst (λ fs. IsFirst fs e)
    (sym (ap (faults place k before) (sketch_many d n ds rest h)
    ∙ ap (λ c. c ++ faults (place ++ k ∷ []) 0 (before + 1) (outline ds) ++ faults place (k + 1) (before + 1 + count (outline ds)) rest) (roomy before (place ++ k ∷ []) room)))
    (is_first-append (faults (place ++ k ∷ []) 0 (before + 1) (outline ds)) (faults place (k + 1) (before + 1 + count (outline ds)) rest) e err)
