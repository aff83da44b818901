-- Both steps keep the rule of a lock.
use Rattle.std.proofs.Common.{◌≡◌, ◌∙◌, ℕ, ◌<◌, List, [], ◌∷◌, length, get_or, set, sym, ap, refl, subst, arith, length-set, get_or-set_same, Option, Some}
use mathlib.Core.Option.{some}
use mathlib.Core.Logic.{dite}
use native.Mathlib.Decide.{ℕ_discrete}
use lib.ListN.{get_elem?}
use Rattle.atomic_table.specs.Table.{Me, takes, gives, keeps, put_back, Allows, Arrives}
use Rattle.parties.specs.Locked.{IsLock, Tried}

pub tries : {T : Type 0} (slots : ℕ) → slots ≡ 1 → Arrives {S = Option T} {V = Unit {0}} IsLock slots 7 (λ _. 1) (λ n me. Tried {T = T} n me.1)
tries slots one s lock long small =
    let wide : 7 < length (set s.words 7 1) = subst (λ n. 7 < n) (sym (length-set s.words 7 1)) lock.0 in
    let taken : get_or (set s.words 7 1) 7 0 ≡ 1 = get_or-set_same s.words 7 1 0 lock.0 in dite (ℕ_discrete (get_or s.words 7 0) 0)
    (λ free. let x = lock.1 free in (tt, takes 0 (Some x.0), x.1, (wide, λ e. absurd (omega arith)), λ _. (x.0, refl)))
    (λ busy. (tt, keeps, tt, (wide, λ e. absurd (omega arith)), λ e. absurd (busy e)))

home_again : {T : Type 0} (homes : List (mathlib.Core.Option.Option (Option T))) (x : Option T) → length homes ≡ 1 → get_elem? (set homes 0 (some x)) 0 ≡ some (some x)
home_again [] x e = absurd (omega arith)
home_again (h ∷ hs) x e = refl

pub puts_back : {T : Type 0} (slots id : ℕ) (me : Me (Option T) (Unit {0})) (x : T) → slots ≡ 1 → me.1 ≡ (0, Some x) ∷ [] → Allows {S = Option T} {V = Unit {0}} IsLock slots id me 7 (λ _. 0) (λ _ _. Unit {0})
puts_back slots id me x one has s lock long at small =
    let wide : 7 < length (set s.words 7 0) = subst (λ n. 7 < n) (sym (length-set s.words 7 0)) lock.0 in
    (tt, gives, tt, (wide, λ _. (x, ap (λ c. get_elem? (put_back s.homes c) 0) has ∙ home_again s.homes (Some x) (long ∙ one))), tt)
