-- The codes that aren't freed.
use Rattle.std.specs.Prelude.{ℕ, List, ◌==◌, ◌&&◌, Bool, Option, option_map, find}
use Rattle.run_lanes.specs.declared.codes.Kept.{Kept}

abbrev pub is_in_use_for : ℕ → Kept → Bool
is_in_use_for method code = code.is_in_use && code.method == method

-- The serial of the code in use for a method.
abbrev pub in_use_for : ℕ → List Kept → Option ℕ
in_use_for method codes = option_map (λ code. code.serial) (find (is_in_use_for method) codes)
