-- Threads may share what they tell each other, and each takes the plan along.
use denote.Param.Send.{IsSend, IsSync, sendable}
use Rattle.std.proofs.Crossing.{crosses}
use Rattle.bench_running.specs.contracts.plan.Plan as Plan
use Rattle.bench_running.specs.contracts.signals.Signals as Signals

pub signals_sync : IsSync Signals.the_row
signals_sync = search (sendable, crosses) depth 40

pub plan_send : IsSend Plan.the_row
plan_send = search (sendable, crosses) depth 40 fits 4000
