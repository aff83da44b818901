-- Which number is spelled so, one number at a time.
use Rattle.std.proofs.Common.{◌≡◌, ◌≢◌, ◌-◌, ℕ, zero, suc, List, Some, None, refl, sym, subst, arith}
use Rattle.std.specs.Prelude.{decimal, bytes_eq, if◌then◌else◌}
use Rattle.cli.specs.CommandLine.{spelled}

pub spelled_or_below : (n : ℕ) (word : List ℕ) → n ≢ 0 → spelled n word ≡ (if bytes_eq (decimal n) word then Some n else spelled (n - 1) word)
unfolding spelled
spelled_or_below zero word some = absurd (some refl)
spelled_or_below (suc n) word some =
    let below : suc n - 1 ≡ n = omega arith in
    subst (λ (k : ℕ). spelled (suc n) word ≡ (if bytes_eq (decimal (suc n)) word then Some (suc n) else spelled k word)) (sym below) refl

pub none_spelled : (word : List ℕ) → spelled 0 word ≡ None
unfolding spelled
none_spelled word = refl
