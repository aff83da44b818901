-- Which bars and names are kept: those that reach beyond the first drawn line, cut to begin there.
use Rattle.std.specs.Prelude.{ℕ, List, [], ◌∷◌, nat_le, max, if◌then◌else◌}
use Rattle.run_lanes.specs.declared.painted.Span.{Span}
use Rattle.run_lanes.specs.declared.painted.Life.{Life}

abbrev pub drawn_span : ℕ → Span → List Span
drawn_span first span = if nat_le span.to first then [] else record span { from = max span.from first } ∷ []

abbrev pub drawn_life : ℕ → Life → List Life
drawn_life first life = if nat_le life.to first then [] else record life { from = max life.from first } ∷ []
