use denote.Param.Send.{sendable}
use Rattle.std.proofs.Crossing.{crosses}
use Rattle.thread_list.proofs.Crosses.{shared_crosses}
use Rattle.recorder.proofs.Crosses.{stream_send}
use Rattle.test_soak.proofs.Crosses.{signals_sync}
use Rattle.test_soak.proofs.threads.start_all.Goals as goal

pub spawn-requires-send-F : goal.spawn-requires-send-F
spawn-requires-send-F g c κs within =
    let shared = shared_crosses g.row.N g.row.J g.N.Name g.J.HandshakeOp c.type_bounds.send-N c.type_bounds.send-J in
    let rt = c.type_bounds.sync-R in
    search (sendable, crosses, stream_send, signals_sync) depth 40
