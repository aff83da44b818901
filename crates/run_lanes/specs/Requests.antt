-- The operations that are waiting or open.
use Rattle.std.specs.Prelude.{ℕ, List, ◌&&◌, Bool, false, nat_le, nat_lt, is_some, Option, None, Some, option_map, option_and_then, find, if◌then◌else◌}
use Rattle.std.specs.List.{position}
use Rattle.operations.specs.Requests.{is_target}
use Rattle.run_lanes.specs.declared.looks.Lane.{Lane}
use Rattle.run_lanes.specs.declared.requests.Asked.{Asked}
use Rattle.run_lanes.specs.declared.rows.Rows.{Rows}
use Rattle.run_lanes.specs.declared.served.Served.{Served}
use Rattle.run_lanes.specs.Rows.{shows}

-- The lane that shows the operation of this number.
abbrev pub lane_in : Rows → ℕ → Option Lane
lane_in rows number = option_map (λ row. record { group = rows.group; row = row }) (position (λ row. shows row number) rows.rows.items)

-- Whether the thread of a name is a target of an operation that was opened when this was the newest name.
abbrev pub is_since : Asked → ℕ → Option ℕ → Bool
is_since asked name None = false
is_since asked name (Some newest) = nat_le name newest && is_target asked.request name

abbrev pub is_for : ℕ → Asked → Bool
is_for name asked = is_since asked name asked.newest

abbrev pub is_listing : ℕ → Asked → Bool
is_listing name asked = is_some asked.newest && is_target asked.request name

-- The first open operation that lists the name.
abbrev pub first_listing : ℕ → List Asked → Option ℕ
first_listing name asked = option_map (λ it. it.number) (find (is_listing name) asked)

-- Whether the operation is one of the name's, with a number above this.
abbrev pub is_above : ℕ → ℕ → Asked → Bool
is_above above name asked = nat_lt above asked.number && is_for name asked

-- The first operation of the name with a number above this.
abbrev pub first_above : ℕ → ℕ → List Asked → Option ℕ
first_above above name asked = option_map (λ it. it.number) (find (is_above above name) asked)

-- The number, if it isn't above this one.
abbrev pub up_to : ℕ → ℕ → Option ℕ
up_to last number = if nat_le number last then Some number else None

-- The operation of the thread's next Finish, and that of its next Clear: in each case the oldest of those that were told to the thread (a
-- Tell armed its poll) and that still need it.
abbrev pub undone : Served → ℕ → List Asked → Option ℕ
undone served name asked = option_and_then (up_to served.told) (first_above served.done name asked)

abbrev pub uncleared : Served → ℕ → List Asked → Option ℕ
uncleared served name asked = option_and_then (up_to served.told) (first_above served.cleared name asked)
