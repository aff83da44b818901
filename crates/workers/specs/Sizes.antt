-- The size of a run's system.
use Rattle.std.specs.Prelude.{◌≡◌, ◌*◌, ◌-◌, ◌^◌, ℕ, min}
use Rattle.thread_list.specs.Sized.{PartsSeen}

-- The parts have a place for each thread, and two slots a method.
abbrev pub HasSize : ℕ → ℕ → PartsSeen → Type 0
HasSize threads methods p = (p.board.places ≡ threads) × (p.board.slots ≡ min (methods * 2) (2 ^ 64 - 1)) × (p.methods ≡ methods)
