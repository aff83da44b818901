-- Bytes, read from the front on.
use Rattle.std.specs.Prelude.{ℕ, suc, ◌+◌, ◌-◌, ◌*◌, ◌^◌, Bool, true, false, not, ◌==◌, nat_lt, List, [], ◌∷◌, Option, Some, None, if◌then◌else◌}
use Rattle.replay.specs.Words.{is_digit}

-- The index of the first such byte, or the length.
abbrev pub first_at : ℕ → List ℕ → ℕ
first_at byte [] = 0
first_at byte (b ∷ bytes) = if b == byte then 0 else suc (first_at byte bytes)

-- A number digit by digit up to a space, and the rest from there. The number is too great as soon as its first digits are.
abbrev pub digits_from : ℕ → List ℕ → Option (ℕ × List ℕ)
digits_from n [] = Some (n, [])
digits_from n (b ∷ bytes) =
    if b == 32 then Some (n, b ∷ bytes)
    else if is_digit b then (if nat_lt (n * 10 + (b - 48)) (2 ^ 40) then digits_from (n * 10 + (b - 48)) bytes else None)
    else None

-- There is a digit before the first space, and the first digit isn't a 0 with more digits after it.
abbrev pub begins_well : List ℕ → Bool
begins_well [] = false
begins_well (b ∷ []) = if b == 32 then false else true
begins_well (b ∷ c ∷ bytes) = if b == 32 then false else if c == 32 then true else not (b == 48)
