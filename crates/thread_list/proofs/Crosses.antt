-- Threads may share what a `Shared` has, and a desk may go from one to another under its lock.
use denote.RattleType.{RattleType}
use denote.Param.{param}
use denote.Param.Send.{IsSend, IsSync, owning_send, sendable}
use Rattle.std.proofs.Crossing.{crosses}
use Rattle.std.proofs.MapsCrossing as maps
use Rattle.bodies.specs.declared.name.Name as name
use Rattle.operations.specs.declared.job.handshake_ops.HandshakeOp as errand
use Rattle.board.proofs.board.Board.TheSendSync as board
use Rattle.board.proofs.keeper.Keeper.TheSendSync as keeper
use Rattle.poll.proofs.row.PollRow.TheSendSync as row
use Rattle.bodies.proofs.body.Body.TheSendSync as body
use Rattle.bodies.proofs.body.SpareSeat.TheSendSync as spare
use Rattle.operations.proofs.queue.Queue.TheSendSync as queue
use Rattle.desk.proofs.entries.Carried.TheSendSync as carried
use Rattle.desk.proofs.entries.Opened.TheSendSync as opened
use Rattle.desk.proofs.replies.Replies.TheSendSync as replies
use Rattle.method_table.specs.contracts.history.History as History
use Rattle.method_table.specs.contracts.table.MethodTable as MethodTable
use Rattle.desk.specs.contracts.codes.Codes as Codes
use Rattle.desk.specs.contracts.ghost_history.Past as Past
use Rattle.desk.specs.contracts.log.Log as Log
use Rattle.desk.specs.contracts.desk.Desk as Desk
use Rattle.berths.specs.contracts.room.Holder as Holder
use Rattle.berths.specs.contracts.room.Room as Room
use Rattle.berths.specs.contracts.berth.Berth as Berth
use Rattle.thread_list.specs.contracts.hints.Hints as Hints
use Rattle.thread_list.specs.contracts.shared.Shared as Shared

history_send : IsSend History.the_row
history_send = owning_send History.the_type (search sendable) (λ d. tt) (λ k x w. tt)

past_send : IsSend Past.the_row
past_send = owning_send Past.the_type (search sendable) (λ d. tt) (λ k x w. tt)

table_send : IsSend MethodTable.the_row
table_send = search (sendable, crosses, maps.crosses, history_send) depth 40

hints_sync : IsSync Hints.the_row
hints_sync = search (sendable, crosses) depth 40

module _ (N : RattleType) (n : name.Ghosts N.Denot) (sn : IsSend N) where
  holder_send : IsSend (Holder.the_field N n).row
  holder_send = search (sendable, body.the_send, spare.the_send) depth 20

  log_send : IsSend (Log.the_row N n)
  log_send = search (sendable, crosses, past_send, replies.the_send) depth 40

  codes_send : IsSend (Codes.the_row N n)
  codes_send = search (sendable, table_send, keeper.the_send) depth 20

module _ (N J : RattleType) (n : name.Ghosts N.Denot) (j : errand.Ghosts J.Denot) (sn : IsSend N) (sj : IsSend J) where
  room_send : IsSend (Room.the_row N J n j)
  room_send = search (sendable, crosses, holder_send) depth 40

  desk_send : IsSend (Desk.the_row N J n j)
  desk_send = search (sendable, crosses, codes_send, log_send, queue.the_send, carried.the_field_send, opened.the_field_send) depth 40

  berth_sync : IsSync (Berth.the_row N J n j)
  berth_sync = search (sendable, crosses, room_send) depth 40

  shared_sync : IsSync (Shared.the_row N J n j)
  shared_sync = search (sendable, crosses, board.the_sync, row.the_sync, hints_sync, desk_send, berth_sync) depth 40

-- a shared list crosses, as a function sees it whose first two type parameters are N and J
pub shared_crosses : (N J : RattleType) (n : name.Ghosts N.Denot) (j : errand.Ghosts J.Denot) → IsSend (param 0 N) → IsSend (param 1 J) → IsSync (Shared.the_row (param 0 N) (param 1 J) n j)
shared_crosses N J n j sn sj = shared_sync (param 0 N) (param 1 J) n j sn sj
