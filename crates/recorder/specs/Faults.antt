-- The faults of calls as words of a log.
use Rattle.std.specs.Prelude.{Option, Some, None}
use Rattle.call_log.specs.declared.word.Word.{Word}
use Rattle.call_log.specs.declared.word.Word.TheVariants as word
use Rattle.thread_list.specs.declared.faults.CallFault.{CallFault}
use Rattle.thread_list.specs.declared.faults.CallFault.TheVariants as is_call
use Rattle.thread_list.specs.declared.faults.ReturnFault.{ReturnFault}
use Rattle.thread_list.specs.declared.faults.ReturnFault.TheVariants as is_return
use Rattle.thread_list.specs.declared.faults.ExitFault.{ExitFault}
use Rattle.thread_list.specs.declared.faults.ExitFault.TheVariants as is_exit
use Rattle.desk.specs.declared.faults.StartFault.{StartFault}
use Rattle.desk.specs.declared.faults.StartFault.TheVariants as is_start
use Rattle.desk.specs.declared.faults.AskFault.{AskFault}
use Rattle.desk.specs.declared.faults.AskFault.TheVariants as is_ask
use Rattle.desk.specs.declared.faults.CodeFault.{CodeFault}
use Rattle.desk.specs.declared.faults.CodeFault.TheVariants as is_code
use Rattle.method_table.specs.declared.table.InstallFault.TheVariants as is_install
use Rattle.method_table.specs.declared.table.InvalidateFault.{InvalidateFault}
use Rattle.method_table.specs.declared.table.InvalidateFault.TheVariants as is_invalidate
use Rattle.method_table.specs.declared.table.RetireFault.TheVariants as is_retire
use Rattle.desk.specs.declared.faults.OpenFault.{OpenFault}
use Rattle.desk.specs.declared.faults.OpenFault.TheVariants as is_open
use Rattle.desk.specs.declared.faults.CloseFault.{CloseFault}
use Rattle.desk.specs.declared.faults.CloseFault.TheVariants as is_close
use Rattle.stopped_threads.specs.declared.faults.TellFault.{TellFault}
use Rattle.stopped_threads.specs.declared.faults.TellFault.TheVariants as is_tell
use Rattle.stopped_threads.specs.declared.faults.HoldFault.{HoldFault}
use Rattle.stopped_threads.specs.declared.faults.HoldFault.TheVariants as is_hold
use Rattle.stopped_threads.specs.declared.faults.ReleaseFault.{ReleaseFault}
use Rattle.stopped_threads.specs.declared.faults.ReleaseFault.TheVariants as is_release
use Rattle.stopped_threads.specs.declared.faults.ServeFault.{ServeFault}
use Rattle.stopped_threads.specs.declared.faults.ServeFault.TheVariants as is_serve
use Rattle.desk.specs.declared.faults.ReclaimFault.{ReclaimFault}
use Rattle.desk.specs.declared.faults.ReclaimFault.TheVariants as is_reclaim
use Rattle.desk.specs.declared.faults.OperateFault.TheVariants as is_operate
use Rattle.stopped_threads.specs.declared.faults.OperateFault.{OperateFault as CensusFault}
use Rattle.stopped_threads.specs.declared.faults.OperateFault.TheVariants as is_census

abbrev pub call_fault : CallFault → Word
call_fault (is_call.Illegal state) = word.Illegal
call_fault is_call.NoSuchMethod = word.NoSuchMethod
call_fault is_call.DepthFull = word.DepthFull

abbrev pub return_fault : ReturnFault → Word
return_fault (is_return.Illegal state) = word.Illegal
return_fault is_return.EmptyStack = word.EmptyStack

abbrev pub exit_fault : ExitFault → Word
exit_fault (is_exit.Illegal state) = word.Illegal
exit_fault is_exit.StackNotEmpty = word.StackNotEmpty

abbrev pub start_fault : StartFault → Option Word
start_fault is_start.SafepointOpen = Some word.SafepointOpen
start_fault is_start.PlacesFull = Some word.PlacesFull
start_fault is_start.Spent = Some word.Spent
start_fault is_start.HistoryFull = None
start_fault is_start.NoMemory = None

abbrev pub ask_fault : AskFault → Option Word
ask_fault is_ask.Spent = Some word.Spent
ask_fault is_ask.QueueFull = Some word.QueueFull
ask_fault is_ask.NoTargets = Some word.NoTargets
ask_fault is_ask.BadTargets = Some word.BadTargets
ask_fault is_ask.HistoryFull = None
ask_fault is_ask.NoMemory = None

abbrev pub install_fault : CodeFault → Option Word
install_fault (is_code.Install is_install.NoSuchMethod) = Some word.NoSuchMethod
install_fault (is_code.Install is_install.TableFull) = Some word.TableFull
install_fault (is_code.Install is_install.SerialsSpent) = Some word.SerialsSpent
install_fault (is_code.Install is_install.NoMemory) = None
install_fault is_code.HistoryFull = None
install_fault is_code.NoMemory = None

abbrev pub invalidate_fault : InvalidateFault → Word
invalidate_fault is_invalidate.Unknown = word.Unknown
invalidate_fault is_invalidate.NotInUse = word.NotInUse

abbrev pub open_fault : OpenFault → Word
open_fault is_open.AlreadyOpen = word.AlreadyOpen
open_fault is_open.QueueEmpty = word.QueueEmpty

abbrev pub close_fault : CloseFault → Word
close_fault is_close.NothingOpen = word.NothingOpen
close_fault is_close.NotOf = word.NotOf
close_fault is_close.Held = word.Held
close_fault is_close.NotDone = word.NotDone

abbrev pub tell_fault : TellFault → Word
tell_fault is_tell.NothingOpen = word.NothingOpen
tell_fault is_tell.NotOf = word.NotOf
tell_fault is_tell.AlreadyTold = word.AlreadyTold

abbrev pub hold_fault : HoldFault → Word
hold_fault is_hold.NoSuchPlace = word.NoSuchPlace
hold_fault is_hold.Vacant = word.Vacant
hold_fault is_hold.NothingOpen = word.NothingOpen
hold_fault is_hold.NotOf = word.NotOf
hold_fault is_hold.NotTold = word.NotTold
hold_fault is_hold.AlreadyDone = word.AlreadyDone
hold_fault is_hold.Held = word.Held
hold_fault is_hold.NotSafe = word.NotSafe

abbrev pub release_fault : ReleaseFault → Word
release_fault is_release.NoSuchPlace = word.NoSuchPlace
release_fault is_release.Vacant = word.Vacant
release_fault is_release.NotHeld = word.NotHeld

abbrev pub serve_fault : ServeFault → Word
serve_fault is_serve.NoSuchPlace = word.NoSuchPlace
serve_fault is_serve.Vacant = word.Vacant
serve_fault is_serve.NotHeld = word.NotHeld
serve_fault is_serve.NothingOpen = word.NothingOpen
serve_fault is_serve.NotOf = word.NotOf
serve_fault is_serve.NotTold = word.NotTold
serve_fault is_serve.AlreadyDone = word.AlreadyDone

abbrev pub operate_fault : CensusFault → Option Word
operate_fault is_census.NoMemory = None
operate_fault (is_census.Refused is_operate.NothingOpen) = Some word.NothingOpen
operate_fault (is_census.Refused is_operate.NotOf) = Some word.NotOf
operate_fault (is_census.Refused is_operate.AlreadyDone) = Some word.AlreadyDone
operate_fault (is_census.Refused is_operate.NotAllHeld) = Some word.NotAllHeld

abbrev pub reclaim_fault : ReclaimFault → Option Word
reclaim_fault (is_reclaim.Code is_retire.Unknown) = Some word.Unknown
reclaim_fault (is_reclaim.Code is_retire.NotNotEntrant) = Some word.NotNotEntrant
reclaim_fault is_reclaim.AlreadyOpen = Some word.AlreadyOpen
reclaim_fault is_reclaim.Spent = Some word.Spent
reclaim_fault (is_reclaim.Ask fault) = ask_fault fault
