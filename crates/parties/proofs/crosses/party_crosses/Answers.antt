use denote.Param.Send.{sendable}
use Rattle.std.proofs.Crossing.{crosses}
use Rattle.parties.proofs.Sends.{party_crosses}
use Rattle.parties.proofs.crosses.party_crosses.Goals as goal

pub crosses-requires-send-T : goal.crosses-requires-send-T
crosses-requires-send-T g c κs within =
    let party = party_crosses g.row.N g.N.Name c.type_bounds.send-N in
    search (sendable, crosses) depth 40
