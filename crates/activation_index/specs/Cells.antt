-- Cells by slot: a serial with its count.
use Rattle.std.specs.Prelude.{ℕ, ◌==◌, List, Option, Some, None, slice_get, if◌then◌else◌}
use Rattle.std.specs.List.{filter_map}
use Rattle.activation_index.specs.declared.Entry.{Entry}

-- the count of a cell with this serial, otherwise 0
abbrev pub count_if : ℕ → Option Entry → ℕ
count_if serial None = 0
count_if serial (Some cell) = if cell.serial == serial then cell.count else 0

abbrev pub count_at : List Entry → ℕ → ℕ → ℕ
count_at cells slot serial = count_if serial (slice_get cells slot)

abbrev pub cell_of : ℕ → ℕ → Entry
cell_of serial count = record { serial = serial; count = count }

-- the serial and count of a cell whose count isn't 0
abbrev pub pair_of : Entry → Option (ℕ × ℕ)
pair_of cell = if cell.count == 0 then None else Some (cell.serial, cell.count)

-- the cells whose count isn't 0, in the order of slots
abbrev pub counted : List Entry → List (ℕ × ℕ)
counted cells = filter_map pair_of cells
