-- Numbers of one to four digits.
use Rattle.std.proofs.Common.{◌≡◌, ℕ, ◌+◌, ◌/◌, ◌%◌, ◌<◌, ◌≤◌, ◌++◌, ◌∙◌, [], ◌∷◌, ap, arith}
use Rattle.std.specs.Prelude.{decimal}
use Rattle.std.proofs.lemmas.Fmt.{decimal_digit, decimal_step}

pub one_digit : (n : ℕ) → n < 10 → decimal n ≡ (48 + n) ∷ []
one_digit n few = decimal_digit n few

pub two_digits : (n : ℕ) → 10 ≤ n → n < 100 → decimal n ≡ (48 + n / 10) ∷ (48 + n % 10) ∷ []
two_digits n many few = decimal_step n many (omega (arith, few)) ∙ ap (λ ds. ds ++ ((48 + n % 10) ∷ [])) (decimal_digit (n / 10) (omega (arith, few)))

pub three_digits : (n : ℕ) → 100 ≤ n → n < 1000 → decimal n ≡ (48 + n / 10 / 10) ∷ (48 + (n / 10) % 10) ∷ (48 + n % 10) ∷ []
three_digits n many few =
    decimal_step n (omega (arith, many)) (omega (arith, few))
    ∙ ap (λ ds. ds ++ ((48 + n % 10) ∷ [])) (two_digits (n / 10) (omega (arith, many)) (omega (arith, few)))

pub four_digits : (n : ℕ) → 1000 ≤ n → n < 10000 → decimal n ≡ (48 + n / 10 / 10 / 10) ∷ (48 + (n / 10 / 10) % 10) ∷ (48 + (n / 10) % 10) ∷ (48 + n % 10) ∷ []
four_digits n many few =
    decimal_step n (omega (arith, many)) (omega (arith, few))
    ∙ ap (λ ds. ds ++ ((48 + n % 10) ∷ [])) (three_digits (n / 10) (omega (arith, many)) (omega (arith, few)))
