-- Threads may share a recorder; a stream and a job that notes where it runs may go from one to another.
use denote.RattleType.{RattleType}
use denote.Param.{param}
use denote.Param.Send.{IsSend, IsSync, sendable}
use denote.Ref.{NamedLft}
use Rattle.std.proofs.Crossing.{crosses}
use Rattle.call_log.proofs.entry.Entry.TheSendSync as entry
use Rattle.recorder.specs.contracts.ran.Ran as Ran
use Rattle.recorder.specs.contracts.recorder.Recorder as Recorder
use Rattle.recorder.specs.contracts.stream.Stream as Stream
use Rattle.recorder.specs.contracts.jobs.RecordedJob as RecordedJob

ran_send : IsSend Ran.the_row
ran_send = search (sendable, crosses) depth 40

pub recorder_sync : IsSync Recorder.the_row
recorder_sync = search (sendable, crosses, ran_send) depth 40

pub stream_send : (κ : NamedLft) → IsSend (Stream.the_row κ)
stream_send κ = search (sendable, crosses, recorder_sync, entry.the_send) depth 40

module _ (κ : NamedLft) (J R : RattleType) (sj : IsSend (param 0 J)) (sr : IsSync (param 1 R)) where
  pub job_send : IsSend (RecordedJob.the_row κ (param 0 J) (param 1 R))
  job_send = search (sendable, crosses, recorder_sync) depth 40
