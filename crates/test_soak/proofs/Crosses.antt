-- Threads may share what they tell each other.
use denote.Param.Send.{IsSync, sendable}
use Rattle.std.proofs.Crossing.{crosses}
use Rattle.test_soak.specs.contracts.signals.Signals as Signals

pub signals_sync : IsSync Signals.the_row
signals_sync = search (sendable, crosses) depth 40
