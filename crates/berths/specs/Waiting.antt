-- Threads that wait at a berth.
use Rattle.std.specs.Prelude.{ℕ, Bool}

-- the place of the berth, and whether a thread waited there
pub record WaitersSeen : Type 0 where
  pub place : ℕ
  pub waits : Bool
