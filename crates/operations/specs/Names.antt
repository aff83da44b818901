-- Lists of names.
use Rattle.std.specs.Prelude.{ℕ, Bool, true, false, not, ◌&&◌, ◌==◌, nat_lt, List, [], ◌∷◌}
use Rattle.std.specs.List.{list_any}

-- The list has the number.
abbrev pub among : ℕ → List ℕ → Bool
among n ns = list_any (λ other. other == n) ns

-- The list has each number at most once.
abbrev pub is_distinct : List ℕ → Bool
is_distinct [] = true
is_distinct (n ∷ ns) = not (among n ns) && is_distinct ns

-- The number is less than the first of the list, or the list is empty.
abbrev pub is_below_first : ℕ → List ℕ → Bool
is_below_first n [] = true
is_below_first n (m ∷ ms) = nat_lt n m

-- Each number is greater than the one before.
abbrev pub is_rising : List ℕ → Bool
is_rising [] = true
is_rising (n ∷ ns) = is_below_first n ns && is_rising ns

abbrev pub is_empty : {A : Type 0} → List A → Bool
is_empty [] = true
is_empty (a ∷ others) = false
