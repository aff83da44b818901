-- What a value's shape says of its sketch.
use Rattle.std.proofs.Common.{◌≡◌, ℕ, ◌+◌, ◌<◌, List, Option, Some, None, option_map, option_and_then, Ordering, Less, Equal, Greater, cond, true, false, Bool, codes, nat_cmp, refl, ap, subst, ◌∙◌, ◌==◌, arith}
use Rattle.std.specs.Ordering.{match_ordering}
use Rattle.std.specs.Cmp.Lexicographic.{slice_cmp}
use Rattle.serde_json.specs.Data.{Data, null, boolean, number, string, array, object, Items, Members, no_members, member, depth, items_depth, members_depth}
use Rattle.serde_json.specs.Events.{members_len}
use Rattle.script.specs.declared.items.Action.{Action}
use Rattle.script.specs.declared.items.Action.TheVariants.{Call}
use Rattle.serde_json.specs.Find.{get_member, as_array}
use Rattle.script.specs.Outline.{Outline, end, action, turns, wrong}
use Rattle.script.specs.Shape.{one, many, shape, call_in, loop_in, number_at, array_at, action_named}
use Rattle.script.specs.Json.{drawn, sketch, inner_outline, array_outline, outline}

-- the body inside, where there is one
abbrev pub inner_of : Data → Outline
inner_of null = end
inner_of (boolean b) = end
inner_of (number n) = end
inner_of (string s) = end
inner_of (array ds) = end
inner_of (object ms) = inner_outline ms

pub sketch-drawn : (d : Data) (rest : Outline) → sketch d rest ≡ drawn (shape d) (inner_of d) rest
sketch-drawn null rest = refl
sketch-drawn (boolean b) rest = refl
sketch-drawn (number n) rest = refl
sketch-drawn (string s) rest = refl
sketch-drawn (array ds) rest = refl
sketch-drawn (object ms) rest = refl

-- an array at a key is inside
pub record IsInside (ms : Members) (ds : Items) : Type 0 where
  pub outline : inner_outline ms ≡ outline ds
  pub depth : items_depth ds < members_depth ms

arrayed : (d : Data) (ds : Items) → as_array d ≡ Some ds → (array_outline d ≡ outline ds) × (items_depth ds < depth d)
arrayed null ds h = absurd (cc)
arrayed (boolean b) ds h = absurd (cc)
arrayed (number n) ds h = absurd (cc)
arrayed (string s) ds h = absurd (cc)
arrayed (array es) ds h = let e : es ≡ ds = cc in (ap outline e, subst (λ fs. items_depth fs < depth (array es)) e (omega arith))
arrayed (object ms) ds h = absurd (cc)

inside_or : (o : Ordering) (k : List ℕ) (d : Data) (ms : Members) (ds : Items)
    → slice_cmp nat_cmp (codes "body") k ≡ o
    → (option_and_then as_array (get_member (codes "body") ms) ≡ Some ds → IsInside ms ds)
    → option_and_then as_array (match_ordering o (get_member (codes "body") ms) (Some d) (get_member (codes "body") ms)) ≡ Some ds
    → IsInside (member k d ms) ds
inside_or Less k d ms ds e inner found = let r = inner found in record { outline = rw e r.outline; depth = omega (arith, r.depth) }
inside_or Equal k d ms ds e inner found = let r = arrayed d ds found in record { outline = rw e r.0; depth = omega (arith, r.1) }
inside_or Greater k d ms ds e inner found = let r = inner found in record { outline = rw e r.outline; depth = omega (arith, r.depth) }

pub inside : (ms : Members) (ds : Items) → option_and_then as_array (get_member (codes "body") ms) ≡ Some ds → IsInside ms ds
inside no_members ds found = absurd (cc)
inside (member k d ms) ds found = inside_or (slice_cmp nat_cmp (codes "body") k) k d ms ds refl (inside ms ds) found

-- a value that is a loop over these values
pub record IsLoop (d : Data) (ds : Items) : Type 0 where
  pub inner : inner_of d ≡ outline ds
  pub depth : items_depth ds + 1 < depth d

loop_found : (o : Option ℕ) (a : Option Items) (n : ℕ) (ds : Items) → option_and_then (λ m. option_map (many m) a) o ≡ Some (many n ds) → a ≡ Some ds
loop_found None a n ds h = absurd (cc)
loop_found (Some m) None n ds h = absurd (cc)
loop_found (Some m) (Some es) n ds h = cc

never_call : (o : Option ℕ) (n : ℕ) (ds : Items) → option_map (λ m. one (Call m)) o ≡ Some (many n ds) → ⊥
never_call None n ds h = cc
never_call (Some m) n ds h = cc

object_loop : (one two : Bool) (ms : Members) (n : ℕ) (ds : Items) → cond one (call_in (object ms)) (cond two (loop_in (object ms)) None) ≡ Some (many n ds)
    → option_and_then as_array (get_member (codes "body") ms) ≡ Some ds
object_loop true two ms n ds h = absurd (never_call (number_at (codes "call") (object ms)) n ds h)
object_loop false true ms n ds h = loop_found (number_at (codes "loop") (object ms)) (array_at (codes "body") (object ms)) n ds h
object_loop false false ms n ds h = absurd (cc)

never_one : (o : Option Action) (n : ℕ) (ds : Items) → option_map one o ≡ Some (many n ds) → ⊥
never_one None n ds h = cc
never_one (Some a) n ds h = cc

pub is_loop : (d : Data) (n : ℕ) (ds : Items) → shape d ≡ Some (many n ds) → IsLoop d ds
is_loop null n ds h = absurd (cc)
is_loop (boolean b) n ds h = absurd (cc)
is_loop (number m) n ds h = absurd (cc)
is_loop (string s) n ds h = absurd (never_one (action_named s) n ds h)
is_loop (array es) n ds h = absurd (cc)
is_loop (object ms) n ds h =
    let r = inside ms ds (object_loop (members_len ms == 1) (members_len ms == 2) ms n ds h) in
    record { inner = r.outline; depth = omega (arith, r.depth) }

pub sketch_wrong : (d : Data) (rest : Outline) → shape d ≡ None → sketch d rest ≡ wrong rest
sketch_wrong d rest h = sketch-drawn d rest ∙ ap (λ o. drawn o (inner_of d) rest) h

pub sketch_one : (d : Data) (a : Action) (rest : Outline) → shape d ≡ Some (one a) → sketch d rest ≡ action a rest
sketch_one d a rest h = sketch-drawn d rest ∙ ap (λ o. drawn o (inner_of d) rest) h

pub sketch_many : (d : Data) (n : ℕ) (ds : Items) (rest : Outline) → shape d ≡ Some (many n ds) → sketch d rest ≡ turns n (outline ds) rest
sketch_many d n ds rest h = sketch-drawn d rest ∙ ap (λ o. drawn o (inner_of d) rest) h ∙ ap (λ o. turns n o rest) (is_loop d n ds h).inner
