-- A script that was checked: what its calls and loops are.
use Rattle.std.specs.Prelude.{ℕ, ◌+◌, ◌<◌, ◌≤◌, List, [], ◌∷◌, length, ⊤}
use Rattle.script.specs.Body.{Body, finish, act, loop}
use Rattle.script.specs.Layout.{IsActionInRange}

-- in a script of so many methods and inside so many loops, each call is of a method that exists, and each loop has 1 to 1,000,000 turns and
-- is nested in fewer than 8 others
abbrev pub IsChecked : ℕ → ℕ → Body → Type 0
IsChecked methods level finish = ⊤
IsChecked methods level (act a rest) = IsActionInRange methods a × IsChecked methods level rest
IsChecked methods level (loop n b rest) = ((0 < n) × (n ≤ 1000000) × (level < 8)) × IsChecked methods (level + 1) b × IsChecked methods level rest

abbrev pub AllChecked : ℕ → List Body → Type 0
AllChecked methods [] = ⊤
AllChecked methods (b ∷ bs) = IsChecked methods 0 b × AllChecked methods bs

abbrev pub AreChecked : List Body → Type 0
AreChecked bs = AllChecked (length bs) bs
