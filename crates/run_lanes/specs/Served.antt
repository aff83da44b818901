-- The progress of threads with the open operations.
use Rattle.std.specs.Prelude.{ℕ, List, unwrap_or, slice_get}
use Rattle.run_lanes.specs.declared.served.Served.{Served}
use Rattle.run_lanes.specs.Widening.{widened}

abbrev pub fresh : Served
fresh = record { told = 0; done = 0; cleared = 0 }

-- The progress of the thread at a place; that of a fresh thread where none is recorded.
abbrev pub served_at : List Served → ℕ → Served
served_at places place = unwrap_or (slice_get places place) fresh

-- The places, extended with fresh ones so that this place exists.
abbrev pub wide : ℕ → List Served → List Served
wide place places = widened fresh place places
