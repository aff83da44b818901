use denote.Param.Send.{sendable}
use Rattle.std.proofs.Crossing.{crosses}
use Rattle.workers.proofs.Crosses.{task_send}
use Rattle.workers.proofs.threads.start.Goals as goal

pub spawn_with-requires-send-F : goal.spawn_with-requires-send-F
spawn_with-requires-send-F g c κs within = search (sendable, crosses, task_send, c.type_bounds) depth 40
