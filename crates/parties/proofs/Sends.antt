-- A party may move to another thread while others share its system, since shared parts are words or under locks.
use denote.RattleType.{RattleType}
use denote.Param.{param}
use denote.Param.Send.{IsSend, IsSync, owning_send, sendable}
use Rattle.std.proofs.Crossing.{crosses}
use Rattle.std.proofs.MapsCrossing as maps
use Rattle.bodies.specs.declared.name.Name as name
use Rattle.operations.specs.declared.job.handshake_ops.HandshakeOp as errand
use Rattle.board.proofs.board.Board.TheSendSync as board
use Rattle.board.proofs.keeper.Keeper.TheSendSync as keeper
use Rattle.poll.proofs.row.PollRow.TheSendSync as row
use Rattle.poll.proofs.row.Armer.TheSendSync as armer
use Rattle.bodies.proofs.body.Body.TheSendSync as body
use Rattle.bodies.proofs.body.SpareSeat.TheSendSync as spare
use Rattle.operations.proofs.queue.Queue.TheSendSync as queue
use Rattle.desk.proofs.entries.Carried.TheSendSync as carried
use Rattle.desk.proofs.entries.Opened.TheSendSync as opened
use Rattle.desk.proofs.replies.Replies.TheSendSync as replies
use Rattle.coordinator_core.proofs.listing.PendingJob.TheSendSync as pending
use Rattle.parties.proofs.tried_lock.TriedLock.TheSendSync as lock
use Rattle.method_table.specs.contracts.history.History as History
use Rattle.method_table.specs.contracts.table.MethodTable as MethodTable
use Rattle.desk.specs.contracts.codes.Codes as Codes
use Rattle.desk.specs.contracts.ghost_history.Past as Past
use Rattle.desk.specs.contracts.log.Log as Log
use Rattle.desk.specs.contracts.desk.Desk as Desk
use Rattle.berths.specs.contracts.room.Holder as Holder
use Rattle.berths.specs.contracts.room.Room as Room
use Rattle.berths.specs.contracts.room.BodyReceipt as BodyReceipt
use Rattle.thread_list.specs.contracts.hints.Hints as Hints
use Rattle.thread_list.specs.contracts.body_state.BodyState as BodyState
use Rattle.thread_list.specs.contracts.running_thread.RunningThread as RunningThread
use Rattle.thread_list.specs.contracts.ends.Entered as Entered
use Rattle.stopped_threads.specs.contracts.held.HeldBodies as HeldBodies
use Rattle.coordinator_core.specs.contracts.coordinator.CoordinatorCore as CoordinatorCore
use Rattle.coordinator_core.specs.contracts.drive.Drive as Drive
use Rattle.parties.specs.contracts.system.LockedRoom as LockedRoom
use Rattle.parties.specs.contracts.system.SharedSystem as SharedSystem
use Rattle.parties.specs.contracts.party.Role as Role
use Rattle.parties.specs.contracts.party.Party as Party

history_send : IsSend History.the_row
history_send = owning_send History.the_type (search sendable) (λ d. tt) (λ k x w. tt)

past_send : IsSend Past.the_row
past_send = owning_send Past.the_type (search sendable) (λ d. tt) (λ k x w. tt)

table_send : IsSend MethodTable.the_row
table_send = search (sendable, crosses, maps.crosses, history_send) depth 40

hints_sync : IsSync Hints.the_row
hints_sync = search (sendable, crosses) depth 40

hints_send : IsSend Hints.the_row
hints_send = search (sendable, crosses) depth 40

module _ (N J : RattleType) (n : name.Ghosts N.Denot) (j : errand.Ghosts J.Denot) (sn : IsSend N) (sj : IsSend J) where
  holder_send : IsSend (Holder.the_field N n).row
  holder_send = search (sendable, body.the_send, spare.the_send) depth 20

  log_send : IsSend (Log.the_row N n)
  log_send = search (sendable, crosses, past_send, replies.the_send) depth 40

  codes_send : IsSend (Codes.the_row N n)
  codes_send = search (sendable, table_send, keeper.the_send) depth 20

  pub room_send : IsSend (Room.the_row N J n j)
  room_send = search (sendable, crosses, holder_send) depth 40

  pub desk_send : IsSend (Desk.the_row N J n j)
  desk_send = search (sendable, crosses, codes_send, log_send, queue.the_send, carried.the_field_send, opened.the_field_send) depth 40

module _ (J : RattleType) (j : errand.Ghosts J.Denot) (sj : IsSend J) where
  drive_send : IsSend (Drive.the_row J j)
  drive_send = search (sendable, crosses, pending.the_field_send) depth 40

module _ (N : RattleType) (n : name.Ghosts N.Denot) (sn : IsSend N) where
  locked_sync : IsSync (LockedRoom.the_row N n)
  locked_sync = search (sendable, crosses, lock.the_sync, room_send) depth 40

  locked_send : IsSend (LockedRoom.the_row N n)
  locked_send = search (sendable, crosses, lock.the_send, room_send) depth 40

  system_sync : IsSync (SharedSystem.the_row N n)
  system_sync = search (sendable, crosses, board.the_sync, row.the_sync, hints_sync, lock.the_sync, locked_sync, desk_send) depth 40

  system_send : IsSend (SharedSystem.the_row N n)
  system_send = search (sendable, crosses, board.the_send, row.the_send, hints_send, lock.the_send, locked_send, desk_send) depth 40

  receipt_send : IsSend (BodyReceipt.the_row N n)
  receipt_send = search (sendable, crosses) depth 20

  body_state_send : IsSend (BodyState.the_field N n).row
  body_state_send = search (sendable, crosses, body.the_send, receipt_send) depth 40

  thread_send : IsSend (RunningThread.the_row N n)
  thread_send = search (sendable, crosses, body_state_send, receipt_send) depth 40

  entered_send : IsSend (Entered.the_row N n)
  entered_send = search (sendable, crosses) depth 40

  held_send : IsSend (HeldBodies.the_row N n)
  held_send = search (sendable, crosses, body.the_send) depth 40

  steps_send : IsSend (CoordinatorCore.the_row N n)
  steps_send = search (sendable, crosses, held_send, armer.the_send) depth 40

  role_send : IsSend (Role.the_field N n).row
  role_send = search (sendable, crosses, entered_send, thread_send, receipt_send, steps_send) depth 40

  party_send : IsSend (Party.the_row N n)
  party_send = search (sendable, crosses, system_sync, system_send, role_send, drive_send) depth 40

pub party_crosses : (N : RattleType) (n : name.Ghosts N.Denot) → IsSend (param 0 N) → IsSend (Party.the_row (param 0 N) n)
party_crosses N n sn = party_send (param 0 N) n sn
