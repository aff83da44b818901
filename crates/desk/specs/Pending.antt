-- Pending requests: those that are open or wait.
use Rattle.std.specs.Prelude.{ℕ, List, [], ◌∷◌, Bool, ◌==◌, ◌||◌, min}
use Rattle.std.specs.List.{list_any}
use Rattle.desk.specs.Machine.{State, Asked, Current, is_open}

-- the number of the oldest waiting request, or else the next number
abbrev pub first_waiting : ℕ → List Asked → ℕ
first_waiting next [] = next
first_waiting next (a ∷ rest) = a.number

-- the least of this number and the numbers of the open requests
abbrev pub least_open : ℕ → List Current → ℕ
least_open n [] = n
least_open n (c ∷ cs) = least_open (min n c.number) cs

-- the least number of a pending request, or else the next number
abbrev pub least_pending : State → ℕ
least_pending s = least_open (first_waiting s.next_number s.waiting) s.opened

-- the request with this number is pending
abbrev pub is_pending : ℕ → State → Bool
is_pending n s = is_open n s.opened || list_any (λ a. a.number == n) s.waiting
