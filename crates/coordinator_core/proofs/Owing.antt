-- A live thread that owes an open request is its target, so it may be held.
use Rattle.std.proofs.Common.{◌≡◌, ℕ, Bool, true, false, cond, List, [], ◌∷◌, Option, Some, None, refl, ap, ◌∙◌}
use Rattle.std.specs.Prelude.{◌==◌, ◌||◌, nat_lt, nat_le, find}
use Rattle.std.specs.List.{list_any}
use Rattle.std.proofs.lemmas.Bool.{eq-eqb, and_parts, or_right}
use Rattle.desk.specs.declared.entries.Live.{Live}
use Rattle.desk.specs.declared.entries.Standing.TheVariants.{NotOf, Asked}
use Rattle.desk.specs.declared.entries.Progress.TheVariants.{Undone}
use Rattle.desk.specs.Machine.{State, Current, place_of}
use Rattle.desk.specs.Targets.{is_asked, is_owed, is_target_of, is_told, is_undone, kind_among, standing_at, standing_to, standing, progress_by, progress, name_at}
use Rattle.stopped_threads.specs.Refused.{hold_fault}

any_found : {A : Type 0} (p q : A → Bool) → ((x : A) → p x ≡ true → q x ≡ true) → (xs : List A) (x : A) → find p xs ≡ Some x → list_any q xs ≡ true
any_found p q f [] x h = cc
any_found p q f (y ∷ ys) x h = by (p y) refl h (any_found p q f ys x)
  where
    by : (b : Bool) → p y ≡ b → cond b (Some y) (find p ys) ≡ Some x → (find p ys ≡ Some x → list_any q ys ≡ true) → (q y || list_any q ys) ≡ true
    by true e k rest = ap (λ b. b || list_any q ys) (f y e)
    by false e k rest = or_right (q y) (list_any q ys) (rest k)

is_live : (place name : ℕ) (ls : List Live) → name_at place ls ≡ Some name → (p : ℕ) × (place_of name ls ≡ Some p)
is_live place name [] h = cc
is_live place name (l ∷ ls) h = by (l.place == place) h (is_live place name ls)
  where
    behind : (b : Bool) → (p : ℕ) × (place_of name ls ≡ Some p) → (p : ℕ) × (cond b (Some l.place) (place_of name ls) ≡ Some p)
    behind true r = (l.place, refl)
    behind false r = r

    by : (b : Bool) → cond b (Some l.name) (name_at place ls) ≡ Some name → (name_at place ls ≡ Some name → (p : ℕ) × (place_of name ls ≡ Some p)) → (p : ℕ) × (place_of name (l ∷ ls) ≡ Some p)
    by true k rest = let same : l.name ≡ name = cc in (l.place, ap (λ b. cond b (Some l.place) (place_of name ls)) (eq-eqb l.name name same))
    by false k rest = behind (l.name == name) (rest k)

of_target : (next name : ℕ) (c : Current) → is_target_of next name c ≡ true → is_asked next name c.request ≡ true
of_target next name c h = (and_parts (is_asked next name c.request) (nat_lt name c.before) h).0

of_undone : (next name last : ℕ) (c : Current) → is_undone next name last c ≡ true → is_target_of next name c ≡ true
of_undone next name last c h =
    (and_parts (is_target_of next name c) (nat_le c.number last) (and_parts (is_told next name last c) (is_owed name c) h).0).0

is_found : (told : Bool) (found : Option Current) (n : ℕ) → progress_by told found ≡ Undone n → (c : Current) × (found ≡ Some c)
is_found told (Some c) n h = (c, refl)
is_found true None n h = cc
is_found false None n h = cc

stands : (next name p : ℕ) (ls : List Live) (cs : List Current) → place_of name ls ≡ Some p → list_any (λ c. is_asked next name c.request) cs ≡ true → list_any (is_target_of next name) cs ≡ true
    → standing_to next ls name cs ≡ Asked (record { place = p; kind = kind_among cs })
stands next name p ls [] at asked target = cc
stands next name p ls (c ∷ cs) at asked target =
    let all = c ∷ cs in
    ap (λ b. cond b (standing_at (place_of name ls) (list_any (is_target_of next name) all) (kind_among all)) NotOf) asked
    ∙ ap (λ o. standing_at o (list_any (is_target_of next name) all) (kind_among all)) at
    ∙ ap (λ b. standing_at (Some p) b (kind_among all)) target

pub owes : (s : State) (place name last n : ℕ) → name_at place s.live ≡ Some name → progress s name last ≡ Undone n → hold_fault (standing s name) (progress s name last) ≡ None
owes s place name last n at is =
    let next = s.next_name in let live = is_live place name s.live at in
    let undone = is_found (list_any (is_told next name last) s.opened) (find (is_undone next name last) s.opened) n is in
    let target = any_found (is_undone next name last) (is_target_of next name) (of_undone next name last) s.opened undone.0 undone.1 in
    let asked = any_found (is_undone next name last) (λ c. is_asked next name c.request) (λ c h. of_target next name c (of_undone next name last c h)) s.opened undone.0 undone.1 in
    ap (λ w. hold_fault w (progress s name last)) (stands next name live.0 s.live s.opened live.1 asked target)
    ∙ ap (λ q. hold_fault (Asked (record { place = live.0; kind = kind_among s.opened })) q) is
