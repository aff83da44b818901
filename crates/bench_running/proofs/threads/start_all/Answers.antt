use denote.Param.Send.{sendable}
use Rattle.std.proofs.Crossing.{crosses}
use Rattle.thread_list.proofs.Crosses.{shared_crosses}
use Rattle.bench_running.proofs.Crosses.{signals_sync, plan_send}
use Rattle.bench_running.proofs.threads.start_all.Goals as goal

pub spawn-requires-send-F : goal.spawn-requires-send-F
spawn-requires-send-F g c κs within =
    let shared = shared_crosses g.row.N g.row.J g.N.Name g.J.HandshakeOp c.type_bounds.send-N c.type_bounds.send-J in
    let rt = c.type_bounds.sync-R in
    search (sendable, crosses, signals_sync, plan_send) depth 40
