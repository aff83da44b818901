use denote.Param.Send.{sendable}
use Rattle.std.proofs.Crossing.{crosses}
use Rattle.thread_list.proofs.Crosses.{shared_crosses}
use Rattle.test_running.proofs.tests.beside.live_all.Goals as goal

pub map_indices-requires-sync-F : goal.map_indices-requires-sync-F
map_indices-requires-sync-F g c κs within =
    let shared = shared_crosses g.row.N g.row.J g.N.Name g.J.HandshakeOp c.type_bounds.send-N c.type_bounds.send-J in
    let rt = c.type_bounds.sync-R in
    search (sendable, crosses) depth 40
