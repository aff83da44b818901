-- The numbers of the faults: -1 and below. A reason has one number, for all acts that it refuses.
use Rattle.std.specs.Prelude.{ℤ, pos, negsuc, min, Ok, Err}
use Rattle.parties.specs.declared.acts.Fault.{Fault}
use Rattle.parties.specs.declared.acts.Fault.TheVariants as fault
use Rattle.parties.specs.Asked.{Told}
use Rattle.desk.specs.declared.faults.StartFault.{StartFault}
use Rattle.desk.specs.declared.faults.StartFault.TheVariants as start_fault
use Rattle.desk.specs.declared.faults.AskFault.{AskFault}
use Rattle.desk.specs.declared.faults.AskFault.TheVariants as ask_fault
use Rattle.method_table.specs.declared.table.InstallFault.{InstallFault}
use Rattle.method_table.specs.declared.table.InstallFault.TheVariants as install_fault
use Rattle.method_table.specs.declared.table.InvalidateFault.{InvalidateFault}
use Rattle.method_table.specs.declared.table.InvalidateFault.TheVariants as invalidate_fault
use Rattle.method_table.specs.declared.table.RetireFault.{RetireFault}
use Rattle.method_table.specs.declared.table.RetireFault.TheVariants as retire_fault
use Rattle.desk.specs.declared.faults.OpenFault.{OpenFault}
use Rattle.desk.specs.declared.faults.OpenFault.TheVariants as open_fault
use Rattle.stopped_threads.specs.declared.faults.TellFault.{TellFault}
use Rattle.stopped_threads.specs.declared.faults.TellFault.TheVariants as tell_fault
use Rattle.stopped_threads.specs.declared.faults.HoldFault.{HoldFault}
use Rattle.stopped_threads.specs.declared.faults.HoldFault.TheVariants as hold_fault
use Rattle.stopped_threads.specs.declared.faults.ServeFault.{ServeFault}
use Rattle.stopped_threads.specs.declared.faults.ServeFault.TheVariants as serve_fault
use Rattle.stopped_threads.specs.declared.faults.ReleaseFault.{ReleaseFault}
use Rattle.stopped_threads.specs.declared.faults.ReleaseFault.TheVariants as release_fault
use Rattle.desk.specs.declared.faults.OperateFault.{OperateFault as Census}
use Rattle.desk.specs.declared.faults.OperateFault.TheVariants as census_fault
use Rattle.desk.specs.declared.faults.CloseFault.{CloseFault}
use Rattle.desk.specs.declared.faults.CloseFault.TheVariants as close_fault
use Rattle.desk.specs.declared.faults.CodeFault.{CodeFault}
use Rattle.desk.specs.declared.faults.CodeFault.TheVariants as code_fault
use Rattle.desk.specs.declared.faults.ReclaimFault.{ReclaimFault}
use Rattle.desk.specs.declared.faults.ReclaimFault.TheVariants as reclaim_fault
use Rattle.stopped_threads.specs.declared.faults.OperateFault.{OperateFault}
use Rattle.stopped_threads.specs.declared.faults.OperateFault.TheVariants as operate_fault

abbrev pub start_code : StartFault → ℤ
start_code start_fault.SafepointOpen = negsuc 8
start_code start_fault.PlacesFull = negsuc 9
start_code start_fault.Spent = negsuc 10
start_code start_fault.HistoryFull = negsuc 11
start_code start_fault.NoMemory = negsuc 1

abbrev pub ask_code : AskFault → ℤ
ask_code ask_fault.Spent = negsuc 10
ask_code ask_fault.QueueFull = negsuc 12
ask_code ask_fault.NoTargets = negsuc 13
ask_code ask_fault.BadTargets = negsuc 14
ask_code ask_fault.HistoryFull = negsuc 11
ask_code ask_fault.NoMemory = negsuc 1

abbrev pub install_code : InstallFault → ℤ
install_code install_fault.NoSuchMethod = negsuc 4
install_code install_fault.TableFull = negsuc 27
install_code install_fault.SerialsSpent = negsuc 10
install_code install_fault.NoMemory = negsuc 1

abbrev pub invalidate_code : InvalidateFault → ℤ
invalidate_code invalidate_fault.Unknown = negsuc 28
invalidate_code invalidate_fault.NotInUse = negsuc 29

abbrev pub retire_code : RetireFault → ℤ
retire_code retire_fault.Unknown = negsuc 28
retire_code retire_fault.NotNotEntrant = negsuc 33

abbrev pub open_code : OpenFault → ℤ
open_code open_fault.AlreadyOpen = negsuc 15
open_code open_fault.QueueEmpty = negsuc 16

abbrev pub tell_code : TellFault → ℤ
tell_code tell_fault.NothingOpen = negsuc 17
tell_code tell_fault.NotOf = negsuc 18
tell_code tell_fault.AlreadyTold = negsuc 20

abbrev pub hold_code : HoldFault → ℤ
hold_code hold_fault.NoSuchPlace = negsuc 25
hold_code hold_fault.Vacant = negsuc 24
hold_code hold_fault.NothingOpen = negsuc 17
hold_code hold_fault.NotOf = negsuc 18
hold_code hold_fault.NotTold = negsuc 19
hold_code hold_fault.AlreadyDone = negsuc 21
hold_code hold_fault.Held = negsuc 22
hold_code hold_fault.NotSafe = negsuc 30

abbrev pub serve_code : ServeFault → ℤ
serve_code serve_fault.NoSuchPlace = negsuc 25
serve_code serve_fault.Vacant = negsuc 24
serve_code serve_fault.NotHeld = negsuc 23
serve_code serve_fault.NothingOpen = negsuc 17
serve_code serve_fault.NotOf = negsuc 18
serve_code serve_fault.NotTold = negsuc 19
serve_code serve_fault.AlreadyDone = negsuc 21

abbrev pub release_code : ReleaseFault → ℤ
release_code release_fault.NoSuchPlace = negsuc 25
release_code release_fault.Vacant = negsuc 24
release_code release_fault.NotHeld = negsuc 23

abbrev pub census_code : Census → ℤ
census_code census_fault.NothingOpen = negsuc 17
census_code census_fault.NotOf = negsuc 18
census_code census_fault.AlreadyDone = negsuc 21
census_code census_fault.NotAllHeld = negsuc 31

abbrev pub close_code : CloseFault → ℤ
close_code close_fault.NothingOpen = negsuc 17
close_code close_fault.NotOf = negsuc 18
close_code close_fault.Held = negsuc 22
close_code close_fault.NotDone = negsuc 26

abbrev pub install_refusal : CodeFault → ℤ
install_refusal (code_fault.Install f) = install_code f
install_refusal code_fault.HistoryFull = negsuc 11
install_refusal code_fault.NoMemory = negsuc 1

abbrev pub reclaim_refusal : ReclaimFault → ℤ
reclaim_refusal (reclaim_fault.Code f) = retire_code f
reclaim_refusal reclaim_fault.AlreadyOpen = negsuc 15
reclaim_refusal reclaim_fault.Spent = negsuc 10
reclaim_refusal (reclaim_fault.Ask f) = ask_code f

abbrev pub operate_refusal : OperateFault → ℤ
operate_refusal (operate_fault.Refused f) = census_code f
operate_refusal operate_fault.NoMemory = negsuc 1

abbrev pub fault_code : Fault → ℤ
fault_code fault.Again = negsuc 0
fault_code fault.NoMemory = negsuc 1
fault_code fault.NotThis = negsuc 2
fault_code fault.Illegal = negsuc 3
fault_code fault.NoSuchMethod = negsuc 4
fault_code fault.DepthFull = negsuc 5
fault_code fault.EmptyStack = negsuc 6
fault_code fault.StackNotEmpty = negsuc 7
fault_code fault.NotAnswered = negsuc 32
fault_code fault.NotWeighed = negsuc 34
fault_code (fault.Late place) = negsuc 35
fault_code fault.Runs = negsuc 36
fault_code fault.Awaits = negsuc 37
fault_code fault.AtSafepoint = negsuc 38
fault_code fault.Pending = negsuc 42
fault_code (fault.Start f) = start_code f
fault_code (fault.Ask f) = ask_code f
fault_code (fault.Code f) = install_refusal f
fault_code (fault.Invalidate f) = invalidate_code f
fault_code (fault.Open f) = open_code f
fault_code (fault.Tell f) = tell_code f
fault_code (fault.Hold f) = hold_code f
fault_code (fault.Serve f) = serve_code f
fault_code (fault.Release f) = release_code f
fault_code (fault.Operate f) = operate_refusal f
fault_code (fault.Close f) = close_code f
fault_code (fault.Reclaim f) = reclaim_refusal f

abbrev pub code_of : Told → ℤ
code_of (Ok n) = pos (min n 9223372036854775807)
code_of (Err e) = fault_code e

-- Two further refusals: the party is made already, and there is no such ask.
abbrev pub made_code : ℤ
made_code = negsuc 39

abbrev pub bad_ask_code : ℤ
bad_ask_code = negsuc 41
