use denote.Param.Send.{sendable}
use Rattle.std.proofs.Crossing.{crosses}
use Rattle.meqzhuly.proofs.Crosses.{shared_crosses}
use Rattle.first_stop.proofs.Crosses.{signals_sync}
use Rattle.first_stop.proofs.beside.Goals as goal

pub join-lived-requires-send-F : goal.join-lived-requires-send-F
join-lived-requires-send-F g c κs within =
    let shared = shared_crosses g.row.N g.row.J g.N.Name g.J.HandshakeOp c.type_bounds.send-N c.type_bounds.send-J in
    let rt = c.type_bounds.sync-R in
    search (sendable, crosses, signals_sync) depth 40
