-- The shape of an object whose members are counted.
use Rattle.std.proofs.Common.{◌≡◌, ◌≢◌, ℕ, suc, List, [], ◌∷◌, length, None, refl, ap, ◌∙◌, eqb, cond, codes, rules, BTreeMap, String, Global}
use Rattle.std.proofs.lemmas.Bool.{ne_eqb}
use Rattle.serde_json.specs.Data.{Data, object, Members}
use Rattle.serde_json.specs.Events.{members_len}
use Rattle.serde_json.specs.View.{view, members_view}
use Rattle.serde_json.specs.declared.value.Value.{Value, Object, the_lemmas}
use Rattle.script.specs.Shape.{shape, call_in, loop_in, array_at}
use Rattle.script.specs.Json.{methods_in}

members_len-members_view : (es : List (String Global × Value)) → members_len (members_view es) ≡ length es
members_len-members_view [] = refl
members_len-members_view (e ∷ es) = ap suc (members_len-members_view es)

view-Object : (m : BTreeMap (String Global) Value) → view (Object m) ≡ object (members_view m.entries)
view-Object m = search (rules, the_lemmas)

shape-object : (d : Data) (ms : Members) (n : ℕ) → d ≡ object ms → members_len ms ≡ n → shape d ≡ cond (eqb n 1) (call_in d) (cond (eqb n 2) (loop_in d) None)
shape-object d ms n is len = rw (is, ← len)

pub shape_of_one : (v : Value) (m : BTreeMap (String Global) Value) → v ≡ Object m → length m.entries ≡ 1 → shape (view v) ≡ call_in (view v)
shape_of_one v m is len = shape-object (view v) (members_view m.entries) 1 (ap view is ∙ view-Object m) (members_len-members_view m.entries ∙ len)

pub shape_of_two : (v : Value) (m : BTreeMap (String Global) Value) → v ≡ Object m → length m.entries ≡ 2 → shape (view v) ≡ loop_in (view v)
shape_of_two v m is len = shape-object (view v) (members_view m.entries) 2 (ap view is ∙ view-Object m) (members_len-members_view m.entries ∙ len)

pub shape_of_other : (v : Value) (m : BTreeMap (String Global) Value) → v ≡ Object m → length m.entries ≢ 1 → length m.entries ≢ 2 → shape (view v) ≡ None
shape_of_other v m is p q =
    shape-object (view v) (members_view m.entries) (length m.entries) (ap view is ∙ view-Object m) (members_len-members_view m.entries)
    ∙ rw (ne_eqb (length m.entries) 1 p, ne_eqb (length m.entries) 2 q)

pub methods_of_one : (v : Value) (m : BTreeMap (String Global) Value) → v ≡ Object m → length m.entries ≡ 1 → methods_in (view v) ≡ array_at (codes "methods") (view v)
methods_of_one v m is len =
    let e = ap view is ∙ view-Object m in
    rw (e, members_len-members_view m.entries, len)

pub methods_of_other : (v : Value) (m : BTreeMap (String Global) Value) → v ≡ Object m → length m.entries ≢ 1 → methods_in (view v) ≡ None
methods_of_other v m is p =
    let e = ap view is ∙ view-Object m in
    rw (e, members_len-members_view m.entries, ne_eqb (length m.entries) 1 p)
