-- Which request the system may open, and which operation it closes.
use Rattle.std.specs.Prelude.{ℕ, Bool, false, not, ◌&&◌, ◌==◌, nat_lt, length, List, [], ◌∷◌, Option, Some, None}
use Rattle.std.specs.List.{position}
use Rattle.operations.specs.declared.queue.Waiting.{Waiting}
use Rattle.operations.specs.Names.{is_empty}
use Rattle.operations.specs.Requests.{is_census}
use Rattle.system.specs.declared.requests.Open.{Open}
use Rattle.system.specs.Kept.Censuses.{has_census}

-- The oldest waiting request is a census.
abbrev pub is_census_next : List (Waiting (Unit {0})) → Bool
is_census_next [] = false
is_census_next (oldest ∷ others) = is_census oldest.request

-- Up to four handshakes are open, or one census alone.
abbrev pub may_open_now : List Open → List (Waiting (Unit {0})) → Bool
may_open_now opens waiting = nat_lt (length opens) 4 && not (has_census opens) && not (is_census_next waiting && not (is_empty opens))

-- The index of the operation of this number; without a number, the index of the oldest.
abbrev pub place_of : Option ℕ → List Open → Option ℕ
place_of None opens = Some 0
place_of (Some number) opens = position (λ open_. open_.number == number) opens
