-- Rows of lanes.
use Rattle.std.specs.Prelude.{ℕ, List, [], ◌∷◌, ◌-◌, ◌==◌, ◌&&◌, Bool, Option, None, Some, is_some, is_none, nat_le, length, unwrap_or}
use Rattle.std.specs.List.{position}
use Rattle.run_lanes.specs.declared.looks.Lane.{Lane}
use Rattle.run_lanes.specs.declared.looks.Paint.{Paint}
use Rattle.run_lanes.specs.declared.painted.Span.{Span}
use Rattle.run_lanes.specs.declared.rows.Row.{Row}
use Rattle.run_lanes.specs.Widening.{widened}

-- Whether a row shows the thread, operation or code of this number.
abbrev pub shows : Row → ℕ → Bool
shows row number = is_some row.paint && row.number == number

-- Whether a row shows nothing and has room for a name that begins at this line.
abbrev pub is_vacant : ℕ → Row → Bool
is_vacant at row = is_none row.paint && nat_le 8 (at - row.begun)

-- The first vacant row, or the one after the last.
abbrev pub vacant_row : ℕ → List Row → ℕ
vacant_row at rows = unwrap_or (position (is_vacant at) rows) (length rows)

abbrev pub blank : Row
blank = record { number = 0; paint = None; since = 0; begun = 0 }

-- The rows, extended with blank ones so that this row exists.
abbrev pub wide : ℕ → List Row → List Row
wide row rows = widened blank row rows

-- The bar of a row, which ends before this line.
abbrev pub bar_in : Lane → ℕ → ℕ → Option Paint → List Span
bar_in lane since at None = []
bar_in lane since at (Some paint) = record { lane = lane; paint = paint; from = since; to = at } ∷ []

abbrev pub number_in : ℕ → Option Paint → Option ℕ
number_in number None = None
number_in number (Some paint) = Some number
