-- The answers of calls as words of a log.
use Rattle.std.specs.Prelude.{ℕ, is_some, Option, Some, Result, Ok, Err, if◌then◌else◌}
use Rattle.call_log.specs.declared.word.Word.TheVariants as word
use Rattle.thread_state.specs.declared.State.{State}
use Rattle.bodies.specs.declared.body.Called.{Called}
use Rattle.bodies.specs.declared.body.Called.TheVariants as is_called
use Rattle.thread_list.specs.declared.polls.Poll.{Poll}
use Rattle.thread_list.specs.declared.polls.Poll.TheVariants as poll
use Rattle.thread_list.specs.declared.turns.Turn.{Turn}
use Rattle.thread_list.specs.declared.shared.Exited.{Exited}
use Rattle.thread_list.specs.declared.faults.CallFault.{CallFault}
use Rattle.thread_list.specs.declared.faults.ReturnFault.{ReturnFault}
use Rattle.thread_list.specs.declared.faults.ExitFault.{ExitFault}
use Rattle.method_table.specs.declared.table.InvalidateFault.{InvalidateFault}
use Rattle.desk.specs.declared.faults.Refused.{Refused}
use Rattle.desk.specs.declared.faults.NotReclaimed.{NotReclaimed}
use Rattle.desk.specs.declared.faults.CodeFault.{CodeFault}
use Rattle.desk.specs.declared.faults.OpenFault.{OpenFault}
use Rattle.desk.specs.declared.faults.CloseFault.{CloseFault}
use Rattle.desk.specs.declared.faults.StartFault.{StartFault}
use Rattle.stopped_threads.specs.declared.faults.OperateFault.{OperateFault}
use Rattle.stopped_threads.specs.declared.faults.Told.{Told}
use Rattle.stopped_threads.specs.declared.faults.Told.TheVariants as is_told
use Rattle.stopped_threads.specs.declared.faults.TellFault.{TellFault}
use Rattle.stopped_threads.specs.declared.faults.HoldFault.{HoldFault}
use Rattle.stopped_threads.specs.declared.faults.ReleaseFault.{ReleaseFault}
use Rattle.stopped_threads.specs.declared.faults.ServeFault.{ServeFault}
use Rattle.stopped_threads.specs.declared.faults.Reclaimed.{Reclaimed}
use Rattle.stopped_threads.specs.declared.faults.Reclaimed.TheVariants as is_reclaimed
use Rattle.recorder.specs.declared.short.Short.{Short}
use Rattle.recorder.specs.Short.{only, with_number, refused}
use Rattle.recorder.specs.Faults as faults

abbrev pub polled : Poll → Short
polled poll.Go = only word.Go
polled (poll.Stop n) = with_number word.Stop n

abbrev pub crosses : Result Poll State → Short
crosses (Ok said) = polled said
crosses (Err state) = only word.Illegal

abbrev pub leaves : Result Poll ReturnFault → Short
leaves (Ok said) = polled said
leaves (Err fault) = only (faults.return_fault fault)

abbrev pub enters : Result Called CallFault → Short
enters (Ok (is_called.Compiled serial)) = with_number word.Compiled serial
enters (Ok is_called.Interpreted) = only word.Interpreted
enters (Err fault) = only (faults.call_fault fault)

abbrev pub moves : {U : Type 0} → Result U State → Short
moves (Ok done) = only word.Ok
moves (Err state) = only word.Illegal

-- The word says whether the last turn ran a job.
abbrev pub stops : {N : Type 0} → Result (Turn N) State → Short
stops (Ok turn) = only (if is_some turn.finish then word.Served else word.Ok)
stops (Err state) = only word.Illegal

abbrev pub exits : {N : Type 0} → {M : Type 0} → ℕ → Result (Exited N) (ExitFault × M) → Short
exits name (Ok exited) = with_number (if is_some exited.served then word.ServedExited else word.Exited) name
exits name (Err refusal) = only (faults.exit_fault refusal.0)

abbrev pub asks : {R : Type 0} → {J : Type 0} → Result (ℕ × R) (Refused J) → Option Short
asks (Ok asked) = Some (with_number word.Asked asked.0)
asks (Err refusal) = refused (faults.ask_fault refusal.fault)

abbrev pub installs : {R : Type 0} → Result (ℕ × R) CodeFault → Option Short
installs (Ok installed) = Some (with_number word.Code installed.0)
installs (Err fault) = refused (faults.install_fault fault)

abbrev pub invalidates : {R : Type 0} → Result R InvalidateFault → Short
invalidates (Ok receipt) = only word.Ok
invalidates (Err fault) = only (faults.invalidate_fault fault)

abbrev pub opens : {R : Type 0} → Result (ℕ × R) OpenFault → Short
opens (Ok opened) = with_number word.Open opened.0
opens (Err fault) = only (faults.open_fault fault)

abbrev pub closes : {R : Type 0} → Result (ℕ × R) CloseFault → Short
closes (Ok closed) = with_number word.Closed closed.0
closes (Err fault) = only (faults.close_fault fault)

abbrev pub closes_of : {R : Type 0} → ℕ → Result R CloseFault → Short
closes_of number (Ok receipt) = with_number word.Closed number
closes_of number (Err fault) = only (faults.close_fault fault)

abbrev pub tells : {N : Type 0} → Result (Told N) TellFault → Short
tells (Ok (is_told.Told receipt)) = only word.Told
tells (Ok is_told.Gone) = only word.Gone
tells (Err fault) = only (faults.tell_fault fault)

abbrev pub holds : {R : Type 0} → Result R HoldFault → Short
holds (Ok receipt) = only word.Ok
holds (Err fault) = only (faults.hold_fault fault)

abbrev pub releases : {R : Type 0} → Result R ReleaseFault → Short
releases (Ok receipt) = only word.Ok
releases (Err fault) = only (faults.release_fault fault)

abbrev pub serves : {R : Type 0} → Result R ServeFault → Short
serves (Ok receipt) = only word.Ok
serves (Err fault) = only (faults.serve_fault fault)

abbrev pub reclaims : {N : Type 0} → {J : Type 0} → Result (Reclaimed N) (NotReclaimed J) → Option Short
reclaims (Ok (is_reclaimed.Freed receipt)) = Some (only word.Freed)
reclaims (Ok (is_reclaimed.Used count weighing)) = Some (with_number word.Used count)
reclaims (Ok (is_reclaimed.Late place weighing)) = Some (with_number word.Late place)
reclaims (Err refusal) = refused (faults.reclaim_fault refusal.fault)

abbrev pub start_refusal : StartFault → Option Short
start_refusal fault = refused (faults.start_fault fault)

abbrev pub operate_refusal : OperateFault → Option Short
operate_refusal fault = refused (faults.operate_fault fault)
