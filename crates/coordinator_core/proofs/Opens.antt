-- After an Open a request is open.
use Rattle.std.proofs.Common.{◌≡◌, ◌&&◌, ℕ, Bool, true, false, List, [], ◌∷◌, Option, sym, subst}
use Rattle.std.specs.Prelude.{IfNone}
use Rattle.operations.specs.declared.Kind.{Kind}
use Rattle.desk.specs.declared.entries.Live.{Live}
use Rattle.desk.specs.declared.entries.Entry.{Entry}
use Rattle.desk.specs.declared.entries.Entry.TheVariants.{Open}
use Rattle.desk.specs.Machine.{State, Asked, Current, Stands, step, is_first, may_open_more, open_next}
use Rattle.desk.specs.Fields.{DeskSeen, Enters, at}
use Rattle.desk.specs.Targets.{kind_of_oldest, open_kind}
use Rattle.desk.proofs.Keeping.{after-push}

-- the state after an entry
entered : (old new : DeskSeen) (e : Entry) (r : Stands) → Enters old new e r → at new ≡ step (at old) e
entered old new e r x = rw (x.sizes_stay.0, x.sizes_stay.1, x.history_is) (after-push old.slots old.methods old.book.history e)

right_true : (a b : Bool) → (a && b) ≡ true → b ≡ true
right_true true b e = e
right_true false b e = absurd (let k : false ≡ true = e in cc)

one_open : (P : Type 0) (n before : ℕ) (ls : List Live) (ws : List Asked) (cs : List Current) → is_first n ws ≡ true → IfNone (kind_of_oldest (open_next before ls ws cs)) P
one_open P n before ls [] cs e = absurd (let k : false ≡ true = e in cc)
one_open P n before ls (a ∷ ws) [] e = tt
one_open P n before ls (a ∷ ws) (c ∷ cs) e = tt

pub open_behind : (P : Type 0) (old new : DeskSeen) (n : ℕ) (rc : Stands) (r : Option Kind) → Enters old new (Open n) rc → r ≡ open_kind (at new) → IfNone r P
open_behind P old new n rc r x e =
    let s = at old in
    subst (λ (k : Option Kind). IfNone k P) (sym e)
    (subst (λ (t : State). IfNone (open_kind t) P) (sym (entered old new (Open n) rc x))
    (one_open P n s.next_name s.live s.waiting s.opened (right_true (may_open_more s.waiting s.opened) (is_first n s.waiting) x.lawful_is)))
