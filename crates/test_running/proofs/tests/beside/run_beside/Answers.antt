use denote.Param.Send.{sendable}
use Rattle.std.proofs.Crossing.{crosses}
use Rattle.thread_list.proofs.Crosses.{shared_crosses}
use Rattle.test_running.proofs.tests.beside.run_beside.Goals as goal

pub join-lived-requires-send-F : goal.join-lived-requires-send-F
join-lived-requires-send-F g c κs within =
    let shared = shared_crosses g.row.N g.row.J g.N.Name g.J.HandshakeOp c.type_bounds.send-N c.type_bounds.send-J in
    let rt = c.type_bounds.sync-R in
    search (sendable, crosses) depth 40
