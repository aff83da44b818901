-- A task may go to another thread.
use denote.RattleType.{RattleType}
use denote.Param.{param}
use denote.Param.Send.{IsSend, IsSync, sendable}
use denote.Ref.{NamedLft}
use Rattle.std.proofs.Crossing.{crosses}
use Rattle.bodies.specs.declared.name.Name as name
use Rattle.operations.specs.declared.job.handshake_ops.HandshakeOp as errand
use Rattle.bodies.proofs.body.Body.TheSendSync as body
use Rattle.interp.proofs.runner.Runner.TheSendSync as runner
use Rattle.thread_list.proofs.Crosses.{shared_crosses}
use Rattle.thread_list.specs.contracts.mutator.Mutator as Mutator
use Rattle.thread_list.specs.contracts.running_thread.RunningThread as RunningThread
use Rattle.thread_list.specs.contracts.body_state.BodyState as BodyState
use Rattle.berths.specs.contracts.room.BodyReceipt as BodyReceipt
use Rattle.workers.specs.contracts.worker.Worker as Worker
use Rattle.workers.specs.contracts.task.Task as Task

module _ (κ : NamedLft) (N J R G : RattleType) (n : name.Ghosts (param 0 N).Denot) (j : errand.Ghosts (param 1 J).Denot) (sn : IsSend (param 0 N)) (sj : IsSend (param 1 J)) (sr : IsSync (param 2 R)) (sg : IsSync (param 3 G)) where
  receipt_send : IsSend (BodyReceipt.the_row (param 0 N) n)
  receipt_send = search (sendable, crosses) depth 20

  body_state_send : IsSend (BodyState.the_field (param 0 N) n).row
  body_state_send = search (sendable, crosses, body.the_send, receipt_send) depth 40

  thread_send : IsSend (RunningThread.the_row (param 0 N) n)
  thread_send = search (sendable, crosses, body_state_send, receipt_send) depth 40

  mutator_send : IsSend (Mutator.the_row κ (param 0 N) (param 1 J) n j)
  mutator_send = let shared = shared_crosses N J n j sn sj in search (sendable, crosses, thread_send) depth 40

  worker_send : IsSend (Worker.the_row κ (param 0 N) (param 1 J) (param 2 R) (param 3 G) n j)
  worker_send = let shared = shared_crosses N J n j sn sj in search (sendable, crosses, mutator_send) depth 40

  pub task_send : IsSend (Task.the_row κ (param 0 N) (param 1 J) (param 2 R) (param 3 G) n j)
  task_send = search (sendable, crosses, worker_send, runner.the_field_send) depth 40
