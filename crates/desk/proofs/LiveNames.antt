-- Binary search of a live name, since live names rise.
use Rattle.std.proofs.Common.{◌≡◌, ℕ, zero, suc, ◌+◌, ◌<◌, ◌≤◌, List, [], ◌∷◌, Bool, true, false, cond, Some, refl, sym, ap, ◌∙◌, subst, arith}
use Rattle.std.specs.Prelude.{◌&&◌, ◌||◌, ◌==◌, slice_get, slice_index_or, drop}
use Rattle.std.specs.List.{list_any}
use Rattle.std.proofs.lemmas.Bool.{eq-eqb, ne_eqb, le-ltb, or_right}
use Rattle.desk.specs.declared.entries.Live.{Live}
use Rattle.desk.specs.Machine.{State, Current, names_of, is_live, place_of}
use Rattle.desk.specs.Fields.{Fields, IsKept}
use Rattle.desk.specs.Rising.{AreRising}
use Rattle.desk.specs.Targets.{is_due_target, is_due_name, live_after}
use Rattle.desk.proofs.Rising.{live_names_rise}

-- a name of the list is at least the least
no_less : (least i : ℕ) (ls : List Live) (l : Live) → AreRising least (names_of ls) → slice_get ls i ≡ Some l → least ≤ l.name
no_less least i [] l r here = cc
no_less least zero (x ∷ ls) l r here =
    let same : x ≡ l = cc in
    subst (λ (y : Live). least ≤ y.name) same r.0
no_less least (suc i) (x ∷ ls) l r here = let k = no_less (x.name + 1) i ls l r.1 here in let h = r.0 in omega arith

-- a listed name is live
pub there_lives : (name i : ℕ) (ls : List Live) (l : Live) → slice_get ls i ≡ Some l → l.name ≡ name → is_live name ls ≡ true
there_lives name i [] l here is = cc
there_lives name zero (x ∷ ls) l here is =
    let same : x ≡ l = cc in
    ap (λ b. b || is_live name ls) (eq-eqb x.name name (ap (λ (y : Live). y.name) same ∙ is))
there_lives name (suc i) (x ∷ ls) l here is = or_right (x.name == name) (is_live name ls) (there_lives name i ls l here is)

-- the listed place is the name's place
pub place_there : (least name i : ℕ) (ls : List Live) (l d : Live) → AreRising least (names_of ls) → slice_get ls i ≡ Some l → l.name ≡ name → Some (slice_index_or ls i d).place ≡ place_of name ls
place_there least name i [] l d r here is = cc
place_there least name zero (x ∷ ls) l d r here is =
    let same : x ≡ l = cc in
    sym (ap (λ b. cond b (Some x.place) (place_of name ls)) (eq-eqb x.name name (ap (λ (y : Live). y.name) same ∙ is)))
place_there least name (suc i) (x ∷ ls) l d r here is =
    let k = no_less (x.name + 1) i ls l r.1 here in
    place_there (x.name + 1) name i ls l d r.1 here is
    ∙ sym (ap (λ b. cond b (Some x.place) (place_of name ls)) (ne_eqb x.name name (λ e. absurd (omega arith))))

or_false : (b : Bool) → (b || false) ≡ b
or_false true = refl
or_false false = refl

-- a name below the least is not due
below_due : (least name : ℕ) (cs : List Current) (ls : List Live) → AreRising least (names_of ls) → name < least → is_due_name name cs ls ≡ false
below_due least name cs [] r low = refl
below_due least name cs (x ∷ ls) r low =
    let k = r.0 in
    ap (λ b. (b && list_any (is_due_target x) cs) || is_due_name name cs ls) (ne_eqb x.name name (λ e. absurd (omega arith)))
    ∙ below_due (x.name + 1) name cs ls r.1 (omega arith)

-- the name is due if and only if the thread at its index is
pub due_there : (least name i : ℕ) (cs : List Current) (ls : List Live) (l d : Live) → AreRising least (names_of ls) → slice_get ls i ≡ Some l → l.name ≡ name
    → list_any (is_due_target (slice_index_or ls i d)) cs ≡ is_due_name name cs ls
due_there least name i cs [] l d r here is = cc
due_there least name zero cs (x ∷ ls) l d r here is =
    let same : x ≡ l = cc in
    let low : x.name ≡ name = ap (λ (y : Live). y.name) same ∙ is in
    sym (ap (λ b. (b && list_any (is_due_target x) cs) || is_due_name name cs ls) (eq-eqb x.name name low)
    ∙ ap (λ b. list_any (is_due_target x) cs || b) (below_due (x.name + 1) name cs ls r.1 (omega arith))
    ∙ or_false (list_any (is_due_target x) cs))
due_there least name (suc i) cs (x ∷ ls) l d r here is =
    let k = no_less (x.name + 1) i ls l r.1 here in
    due_there (x.name + 1) name i cs ls l d r.1 here is
    ∙ sym (ap (λ b. (b && list_any (is_due_target x) cs) || is_due_name name cs ls) (ne_eqb x.name name (λ e. absurd (omega arith))))

above_until : (least name i : ℕ) (ls : List Live) (l : Live) → AreRising least (names_of ls) → slice_get ls i ≡ Some l → l.name ≡ name
    → live_after name (drop (suc i) ls) ≡ live_after name ls
above_until least name i [] l r here is = cc
above_until least name zero (x ∷ ls) l r here is =
    let same : x ≡ l = cc in
    let low : x.name ≡ name = ap (λ (y : Live). y.name) same ∙ is in
    sym (ap (λ b. cond b (Some x.name) (live_after name ls)) (le-ltb name x.name (omega arith)))
above_until least name (suc i) (x ∷ ls) l r here is =
    let k = no_less (x.name + 1) i ls l r.1 here in
    above_until (x.name + 1) name i ls l r.1 here is
    ∙ sym (ap (λ b. cond b (Some x.name) (live_after name ls)) (le-ltb name x.name (omega arith)))

-- the least greater name comes after it
pub above_behind : (least name i : ℕ) (ls : List Live) (l : Live) → AreRising least (names_of ls) → slice_get ls i ≡ Some l → l.name ≡ name
    → live_after name (drop (i + 1) ls) ≡ live_after name ls
above_behind least name i ls l r here is =
    let next : i + 1 ≡ suc i = omega arith in
    ap (λ k. live_after name (drop k ls)) next ∙ above_until least name i ls l r here is

-- the live names of a desk rise
pub kept_rise : {J : Type 0} {d : Fields J} → IsKept d → AreRising 0 (names_of d.live)
kept_rise {d = d} k = subst (λ (t : State). AreRising 0 (names_of t.live)) k.state (live_names_rise d.table.slots d.table.methods d.book.history k.legal)
