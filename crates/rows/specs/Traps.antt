-- Cases that are easily confused: events and the answers to them, line by line.
use Rattle.std.specs.Prelude.{pos, negsuc, List, [], ◌∷◌}
use Rattle.thread_state.specs.declared.Back.TheVariants.{Java, Vm}
use Rattle.thread_state.specs.declared.State.TheVariants.{Vacant, New, NewTrans, InJava, InVm, InNative, NativeTrans, Blocked, BlockedTrans, AtPoll, Serving}
use Rattle.system.specs.declared.answers.Refusal.TheVariants.{NoSuchPlace, Illegal, Publishing, NotBegun, ChangesLeft, Held, NoSuchMethod, Unknown, Unpublished, DepthFull, NotOf, StackNotEmpty, OperationPending, NotDone, NothingOpen, NotTold, AlreadyDone, NotSafe, NotHeld, SafepointOpen, PlacesFull, TableFull, NotInUse, NotNotEntrant, QueueFull, NoTargets, BadTargets, AlreadyOpen, QueueEmpty, AlreadyTold, NotAllHeld}
use Rattle.system.specs.Log.{Entry}
use Rattle.rows.specs.Lines.{◌⇒◌, begin, change, end, wake, cross, enter, enter_code, leave, edge, to_vm, from_vm, to_native, block, exit, take, finish, clear, hold, release, stack, start, install, invalidate, round, look, weigh, free, ask_depth, ask_top, ask_count, ask_census, open_oldest, tell, operate, close, close_of, count, state, resolve, ok, thread, exited, changes, no_change, go, stop, entered, wrong_method, reply, frames, interpreted, compiled, code, none, is_clear, late, not_looked, used, retired, asked, open_handshake, open_census, closed, told, gone, census, counted, counts, freed, refused}

-- A full queue is reported before any fault of the targets; no targets are reported before bad ones. (1 place, 1 slot, 1 method)
abbrev pub ask_order : List Entry
ask_order =
    ask_depth [] ⇒ refused NoTargets ∷ ask_count 1 [] ⇒ refused NoTargets ∷ ask_top (1 ∷ 1 ∷ []) ⇒ refused BadTargets ∷
    ask_depth (1 ∷ 2 ∷ 3 ∷ 4 ∷ 5 ∷ 6 ∷ 7 ∷ 8 ∷ 9 ∷ 10 ∷ 11 ∷ 12 ∷ 13 ∷ 14 ∷ 15 ∷ 16 ∷ 17 ∷ 18 ∷ 19 ∷ 20 ∷ 21 ∷ 22 ∷ 23 ∷ 24 ∷ 25 ∷ 26 ∷ 27 ∷ 28 ∷ 29 ∷ 30 ∷ 31 ∷ 32 ∷ 33 ∷ 34 ∷ 35 ∷ 36 ∷ 37 ∷ 38 ∷ 39 ∷ 40 ∷ 41 ∷ 42 ∷ 43 ∷ 44 ∷ 45 ∷ 46 ∷ 47 ∷ 48 ∷ 49 ∷ 50 ∷ 51 ∷ 52 ∷ 53 ∷ 54 ∷ 55 ∷ 56 ∷ 57 ∷ 58 ∷ 59 ∷ 60 ∷ 61 ∷ 62 ∷ 63 ∷ 64 ∷ 65 ∷ []) ⇒ refused BadTargets ∷
    ask_depth (1 ∷ 2 ∷ 3 ∷ 4 ∷ 5 ∷ 6 ∷ 7 ∷ 8 ∷ 9 ∷ 10 ∷ 11 ∷ 12 ∷ 13 ∷ 14 ∷ 15 ∷ 16 ∷ 17 ∷ 18 ∷ 19 ∷ 20 ∷ 21 ∷ 22 ∷ 23 ∷ 24 ∷ 25 ∷ 26 ∷ 27 ∷ 28 ∷ 29 ∷ 30 ∷ 31 ∷ 32 ∷ 33 ∷ 34 ∷ 35 ∷ 36 ∷ 37 ∷ 38 ∷ 39 ∷ 40 ∷ 41 ∷ 42 ∷ 43 ∷ 44 ∷ 45 ∷ 46 ∷ 47 ∷ 48 ∷ 49 ∷ 50 ∷ 51 ∷ 52 ∷ 53 ∷ 54 ∷ 55 ∷ 56 ∷ 57 ∷ 58 ∷ 59 ∷ 60 ∷ 61 ∷ 62 ∷ 63 ∷ 64 ∷ []) ⇒ asked 1 ∷
    ask_census ⇒ asked 2 ∷ ask_census ⇒ asked 3 ∷ ask_census ⇒ asked 4 ∷ ask_census ⇒ asked 5 ∷ ask_census ⇒ asked 6 ∷
    ask_census ⇒ asked 7 ∷ ask_census ⇒ asked 8 ∷ ask_census ⇒ asked 9 ∷ ask_census ⇒ asked 10 ∷ ask_census ⇒ asked 11 ∷
    ask_census ⇒ asked 12 ∷ ask_census ⇒ asked 13 ∷ ask_census ⇒ asked 14 ∷ ask_census ⇒ asked 15 ∷ ask_census ⇒ asked 16 ∷
    ask_census ⇒ asked 17 ∷ ask_census ⇒ asked 18 ∷ ask_census ⇒ asked 19 ∷ ask_census ⇒ asked 20 ∷ ask_census ⇒ asked 21 ∷
    ask_census ⇒ asked 22 ∷ ask_census ⇒ asked 23 ∷ ask_census ⇒ asked 24 ∷ ask_census ⇒ asked 25 ∷ ask_census ⇒ asked 26 ∷
    ask_census ⇒ asked 27 ∷ ask_census ⇒ asked 28 ∷ ask_census ⇒ asked 29 ∷ ask_census ⇒ asked 30 ∷ ask_census ⇒ asked 31 ∷
    ask_census ⇒ asked 32 ∷ ask_census ⇒ asked 33 ∷ ask_census ⇒ asked 34 ∷ ask_census ⇒ asked 35 ∷ ask_census ⇒ asked 36 ∷
    ask_census ⇒ asked 37 ∷ ask_census ⇒ asked 38 ∷ ask_census ⇒ asked 39 ∷ ask_census ⇒ asked 40 ∷ ask_census ⇒ asked 41 ∷
    ask_census ⇒ asked 42 ∷ ask_census ⇒ asked 43 ∷ ask_census ⇒ asked 44 ∷ ask_census ⇒ asked 45 ∷ ask_census ⇒ asked 46 ∷
    ask_census ⇒ asked 47 ∷ ask_census ⇒ asked 48 ∷ ask_census ⇒ asked 49 ∷ ask_census ⇒ asked 50 ∷ ask_census ⇒ asked 51 ∷
    ask_census ⇒ asked 52 ∷ ask_census ⇒ asked 53 ∷ ask_census ⇒ asked 54 ∷ ask_census ⇒ asked 55 ∷ ask_census ⇒ asked 56 ∷
    ask_census ⇒ asked 57 ∷ ask_census ⇒ asked 58 ∷ ask_census ⇒ asked 59 ∷ ask_census ⇒ asked 60 ∷ ask_census ⇒ asked 61 ∷
    ask_census ⇒ asked 62 ∷ ask_census ⇒ asked 63 ∷ ask_census ⇒ asked 64 ∷ ask_depth [] ⇒ refused QueueFull ∷
    ask_depth (1 ∷ 1 ∷ []) ⇒ refused QueueFull ∷ open_oldest ⇒ open_handshake 1 ∷ ask_depth [] ⇒ refused NoTargets ∷
    ask_census ⇒ asked 65 ∷ []

-- A stop keeps where the thread resumes, in Java or in the VM. (1 place, 4 slots, 2 methods)
abbrev pub way_back_to_the_vm : List Entry
way_back_to_the_vm =
    start ⇒ thread 1 0 ∷ begin 0 ⇒ ok ∷ end 0 ⇒ ok ∷ wake 0 ⇒ ok ∷ cross 0 ⇒ go ∷ to_vm 0 ⇒ ok ∷ to_native 0 ⇒ ok ∷
    wake 0 ⇒ ok ∷ ask_depth (1 ∷ []) ⇒ asked 1 ∷ open_oldest ⇒ open_handshake 1 ∷ tell 1 ⇒ told ∷ cross 0 ⇒ stop 1 ∷
    cross 0 ⇒ refused (Illegal (AtPoll Vm)) ∷ take 0 ⇒ ok ∷ edge 0 ⇒ refused (Illegal (Serving Vm)) ∷ finish 0 ⇒ reply 0 ∷
    clear 0 ⇒ ok ∷ cross 0 ⇒ go ∷ close ⇒ closed 1 ∷ edge 0 ⇒ refused (Illegal InVm) ∷ block 0 ⇒ ok ∷ wake 0 ⇒ ok ∷
    edge 0 ⇒ refused (Illegal BlockedTrans) ∷ cross 0 ⇒ go ∷ edge 0 ⇒ refused (Illegal InVm) ∷ ask_depth (1 ∷ []) ⇒ asked 2 ∷
    open_oldest ⇒ open_handshake 2 ∷ tell 1 ⇒ told ∷ from_vm 0 ⇒ stop 2 ∷ cross 0 ⇒ refused (Illegal (AtPoll Java)) ∷ []

-- A frame left and entered again since it was shown is no change. (1 place, 4 slots, 2 methods)
abbrev pub left_and_entered_again : List Entry
left_and_entered_again =
    start ⇒ thread 1 0 ∷ begin 0 ⇒ ok ∷ end 0 ⇒ ok ∷ wake 0 ⇒ ok ∷ cross 0 ⇒ go ∷ install 0 ⇒ code 1 ∷
    enter_code 0 0 1 ⇒ entered ∷ begin 0 ⇒ ok ∷ change 0 ⇒ changes 1 (pos 1) ∷ end 0 ⇒ ok ∷ leave 0 ⇒ go ∷
    enter_code 0 0 1 ⇒ entered ∷ begin 0 ⇒ ok ∷ change 0 ⇒ no_change ∷ end 0 ⇒ ok ∷ []

-- A thread whose poll isn't armed may exit while a census is open; the refusals of Operate and Close in their order.
-- (2 places, 4 slots, 2 methods)
abbrev pub exit_in_an_open_census : List Entry
exit_in_an_open_census =
    start ⇒ thread 1 0 ∷ begin 0 ⇒ ok ∷ end 0 ⇒ ok ∷ wake 0 ⇒ ok ∷ cross 0 ⇒ go ∷ start ⇒ thread 2 1 ∷ begin 1 ⇒ ok ∷
    end 1 ⇒ ok ∷ wake 1 ⇒ ok ∷ cross 1 ⇒ go ∷ ask_census ⇒ asked 1 ∷ open_oldest ⇒ open_census 1 ∷
    start ⇒ refused SafepointOpen ∷ operate ⇒ refused NotAllHeld ∷ exit 0 ⇒ exited 1 ∷ tell 1 ⇒ gone ∷ tell 2 ⇒ told ∷
    edge 1 ⇒ stop 1 ∷ close ⇒ refused NotDone ∷ hold 1 ⇒ ok ∷ close ⇒ refused Held ∷ begin 1 ⇒ ok ∷
    operate ⇒ refused Publishing ∷ end 1 ⇒ ok ∷ operate ⇒ census [] ∷ operate ⇒ refused AlreadyDone ∷ close ⇒ refused Held ∷
    finish 1 ⇒ refused NotOf ∷ clear 1 ⇒ ok ∷ start ⇒ refused SafepointOpen ∷ release 1 ⇒ ok ∷ close ⇒ closed 1 ∷
    start ⇒ thread 3 0 ∷ []

-- A thread that is released after a census, before its poll is cleared, clears it itself. (1 place, 4 slots, 2 methods)
abbrev pub clear_after_a_census : List Entry
clear_after_a_census =
    start ⇒ thread 1 0 ∷ begin 0 ⇒ ok ∷ end 0 ⇒ ok ∷ wake 0 ⇒ ok ∷ cross 0 ⇒ go ∷ ask_census ⇒ asked 1 ∷
    open_oldest ⇒ open_census 1 ∷ tell 1 ⇒ told ∷ edge 0 ⇒ stop 1 ∷ take 0 ⇒ refused NotDone ∷ hold 0 ⇒ ok ∷
    take 0 ⇒ refused Held ∷ clear 0 ⇒ refused NotDone ∷ operate ⇒ census [] ∷ release 0 ⇒ ok ∷ close ⇒ refused NotDone ∷
    take 0 ⇒ ok ∷ clear 0 ⇒ ok ∷ cross 0 ⇒ go ∷ exit 0 ⇒ exited 1 ∷ start ⇒ refused SafepointOpen ∷ close ⇒ closed 1 ∷ []

-- Changes have ascending serials, whatever the order of the frames. (1 place, 4 slots, 2 methods)
abbrev pub change_order : List Entry
change_order =
    start ⇒ thread 1 0 ∷ begin 0 ⇒ ok ∷ end 0 ⇒ ok ∷ wake 0 ⇒ ok ∷ cross 0 ⇒ go ∷ install 0 ⇒ code 1 ∷ install 1 ⇒ code 2 ∷
    enter_code 0 1 2 ⇒ entered ∷ enter 0 0 ⇒ entered ∷ enter_code 0 0 1 ⇒ entered ∷ enter_code 0 1 2 ⇒ entered ∷
    begin 0 ⇒ ok ∷ end 0 ⇒ refused ChangesLeft ∷ change 0 ⇒ changes 1 (pos 1) ∷ end 0 ⇒ refused ChangesLeft ∷
    change 0 ⇒ changes 2 (pos 2) ∷ change 0 ⇒ no_change ∷ end 0 ⇒ ok ∷
    stack 0 ⇒ frames (compiled 1 1 2 ∷ interpreted 0 ∷ compiled 0 0 1 ∷ compiled 1 1 2 ∷ []) ∷ []

-- The refusals of Clear and Finish in their order. (2 places, 4 slots, 2 methods)
abbrev pub clear_order : List Entry
clear_order =
    start ⇒ thread 1 0 ∷ begin 0 ⇒ ok ∷ end 0 ⇒ ok ∷ wake 0 ⇒ ok ∷ cross 0 ⇒ go ∷ start ⇒ thread 2 1 ∷ begin 1 ⇒ ok ∷
    end 1 ⇒ ok ∷ wake 1 ⇒ ok ∷ cross 1 ⇒ go ∷ ask_depth (1 ∷ []) ⇒ asked 1 ∷ open_oldest ⇒ open_handshake 1 ∷ tell 1 ⇒ told ∷
    edge 0 ⇒ stop 1 ∷ take 0 ⇒ ok ∷ finish 0 ⇒ reply 0 ∷ clear 0 ⇒ ok ∷ close ⇒ closed 1 ∷ clear 0 ⇒ refused NothingOpen ∷
    ask_depth (2 ∷ []) ⇒ asked 2 ∷ open_oldest ⇒ open_handshake 2 ∷ clear 0 ⇒ refused NotOf ∷ finish 0 ⇒ refused NotOf ∷
    tell 2 ⇒ told ∷ edge 1 ⇒ stop 2 ∷ take 1 ⇒ ok ∷ finish 1 ⇒ reply 0 ∷ clear 1 ⇒ ok ∷ close ⇒ closed 2 ∷
    ask_depth (1 ∷ []) ⇒ asked 3 ∷ open_oldest ⇒ open_handshake 3 ∷ clear 0 ⇒ refused NotTold ∷ finish 0 ⇒ refused NotTold ∷
    tell 1 ⇒ told ∷ clear 0 ⇒ refused NotDone ∷ finish 0 ⇒ reply 0 ∷ clear 0 ⇒ ok ∷ []

-- A full stack is reported before code that isn't entrant, and before code of another method. (1 place, 4 slots, 2 methods)
abbrev pub depth_full_before_wrong_method : List Entry
depth_full_before_wrong_method =
    start ⇒ thread 1 0 ∷ begin 0 ⇒ ok ∷ end 0 ⇒ ok ∷ wake 0 ⇒ ok ∷ cross 0 ⇒ go ∷ install 0 ⇒ code 1 ∷ invalidate 1 ⇒ ok ∷
    install 1 ⇒ code 2 ∷ enter 0 0 ⇒ entered ∷ enter 0 0 ⇒ entered ∷ enter 0 0 ⇒ entered ∷ enter 0 0 ⇒ entered ∷ enter 0 0 ⇒ entered ∷
    enter 0 0 ⇒ entered ∷ enter 0 0 ⇒ entered ∷ enter 0 0 ⇒ entered ∷ enter 0 0 ⇒ entered ∷ enter 0 0 ⇒ entered ∷
    enter 0 0 ⇒ entered ∷ enter 0 0 ⇒ entered ∷ enter 0 0 ⇒ entered ∷ enter 0 0 ⇒ entered ∷ enter 0 0 ⇒ entered ∷
    enter 0 0 ⇒ entered ∷ enter 0 0 ⇒ entered ∷ enter 0 0 ⇒ entered ∷ enter 0 0 ⇒ entered ∷ enter 0 0 ⇒ entered ∷
    enter 0 0 ⇒ entered ∷ enter 0 0 ⇒ entered ∷ enter 0 0 ⇒ entered ∷ enter 0 0 ⇒ entered ∷ enter 0 0 ⇒ entered ∷
    enter 0 0 ⇒ entered ∷ enter 0 0 ⇒ entered ∷ enter 0 0 ⇒ entered ∷ enter 0 0 ⇒ entered ∷ enter 0 0 ⇒ entered ∷
    enter 0 0 ⇒ entered ∷ enter 0 0 ⇒ entered ∷ enter 0 0 ⇒ entered ∷ enter 0 0 ⇒ entered ∷ enter 0 0 ⇒ entered ∷
    enter 0 0 ⇒ entered ∷ enter 0 0 ⇒ entered ∷ enter 0 0 ⇒ entered ∷ enter 0 0 ⇒ entered ∷ enter 0 0 ⇒ entered ∷
    enter 0 0 ⇒ entered ∷ enter 0 0 ⇒ entered ∷ enter 0 0 ⇒ entered ∷ enter 0 0 ⇒ entered ∷ enter 0 0 ⇒ entered ∷
    enter 0 0 ⇒ entered ∷ enter 0 0 ⇒ entered ∷ enter 0 0 ⇒ entered ∷ enter 0 0 ⇒ entered ∷ enter 0 0 ⇒ entered ∷
    enter 0 0 ⇒ entered ∷ enter 0 0 ⇒ entered ∷ enter 0 0 ⇒ entered ∷ enter 0 0 ⇒ entered ∷ enter 0 0 ⇒ entered ∷
    enter 0 0 ⇒ entered ∷ enter 0 0 ⇒ entered ∷ enter 0 0 ⇒ entered ∷ enter 0 0 ⇒ entered ∷ enter 0 0 ⇒ entered ∷
    enter 0 0 ⇒ entered ∷ enter 0 0 ⇒ entered ∷ enter 0 0 ⇒ entered ∷ enter 0 0 ⇒ entered ∷ enter 0 0 ⇒ entered ∷
    enter 0 0 ⇒ entered ∷ enter 0 0 ⇒ entered ∷ enter 0 0 ⇒ entered ∷ enter 0 0 ⇒ entered ∷ enter 0 0 ⇒ entered ∷
    enter 0 0 ⇒ entered ∷ enter 0 0 ⇒ entered ∷ enter 0 0 ⇒ entered ∷ enter 0 0 ⇒ entered ∷ enter 0 0 ⇒ entered ∷
    enter 0 0 ⇒ entered ∷ enter 0 0 ⇒ entered ∷ enter 0 0 ⇒ entered ∷ enter 0 0 ⇒ entered ∷ enter 0 0 ⇒ entered ∷
    enter 0 0 ⇒ entered ∷ enter 0 0 ⇒ entered ∷ enter 0 0 ⇒ entered ∷ enter 0 0 ⇒ entered ∷ enter 0 0 ⇒ entered ∷
    enter 0 0 ⇒ entered ∷ enter 0 0 ⇒ entered ∷ enter 0 0 ⇒ entered ∷ enter 0 0 ⇒ entered ∷ enter 0 0 ⇒ entered ∷
    enter 0 0 ⇒ entered ∷ enter 0 0 ⇒ entered ∷ enter 0 0 ⇒ entered ∷ enter 0 0 ⇒ entered ∷ enter 0 0 ⇒ entered ∷
    enter 0 0 ⇒ entered ∷ enter 0 0 ⇒ entered ∷ enter 0 0 ⇒ entered ∷ enter 0 0 ⇒ entered ∷ enter 0 0 ⇒ entered ∷
    enter 0 0 ⇒ entered ∷ enter 0 0 ⇒ entered ∷ enter 0 0 ⇒ entered ∷ enter 0 0 ⇒ entered ∷ enter 0 0 ⇒ entered ∷
    enter 0 0 ⇒ entered ∷ enter 0 0 ⇒ entered ∷ enter 0 0 ⇒ entered ∷ enter 0 0 ⇒ entered ∷ enter 0 0 ⇒ entered ∷
    enter 0 0 ⇒ entered ∷ enter 0 0 ⇒ entered ∷ enter 0 0 ⇒ entered ∷ enter 0 0 ⇒ entered ∷ enter 0 0 ⇒ entered ∷
    enter 0 0 ⇒ entered ∷ enter 0 0 ⇒ entered ∷ enter 0 0 ⇒ entered ∷ enter 0 0 ⇒ entered ∷ enter 0 0 ⇒ entered ∷
    enter 0 0 ⇒ entered ∷ enter 0 0 ⇒ entered ∷ enter 0 0 ⇒ entered ∷ enter 0 0 ⇒ entered ∷ enter 0 0 ⇒ entered ∷
    enter 0 0 ⇒ entered ∷ enter 0 0 ⇒ entered ∷ enter 0 0 ⇒ entered ∷ enter 0 0 ⇒ entered ∷ enter 0 0 ⇒ entered ∷
    enter 0 0 ⇒ entered ∷ enter 0 0 ⇒ entered ∷ enter 0 0 ⇒ entered ∷ enter 0 0 ⇒ entered ∷ enter 0 0 ⇒ entered ∷
    enter 0 0 ⇒ entered ∷ enter 0 0 ⇒ entered ∷ enter 0 0 ⇒ entered ∷ enter 0 0 ⇒ entered ∷ enter 0 0 ⇒ entered ∷
    enter 0 0 ⇒ entered ∷ enter 0 0 ⇒ entered ∷ enter 0 0 ⇒ entered ∷ enter 0 0 ⇒ entered ∷ enter 0 0 ⇒ entered ∷
    enter 0 0 ⇒ entered ∷ enter 0 0 ⇒ entered ∷ enter 0 0 ⇒ entered ∷ enter 0 0 ⇒ entered ∷ enter 0 0 ⇒ entered ∷
    enter 0 0 ⇒ entered ∷ enter 0 0 ⇒ entered ∷ enter 0 0 ⇒ entered ∷ enter 0 0 ⇒ entered ∷ enter 0 0 ⇒ entered ∷
    enter 0 0 ⇒ entered ∷ enter 0 0 ⇒ entered ∷ enter 0 0 ⇒ entered ∷ enter 0 0 ⇒ entered ∷ enter 0 0 ⇒ entered ∷
    enter 0 0 ⇒ entered ∷ enter 0 0 ⇒ entered ∷ enter 0 0 ⇒ entered ∷ enter 0 0 ⇒ entered ∷ enter 0 0 ⇒ entered ∷
    enter 0 0 ⇒ entered ∷ enter 0 0 ⇒ entered ∷ enter 0 0 ⇒ entered ∷ enter 0 0 ⇒ entered ∷ enter 0 0 ⇒ entered ∷
    enter 0 0 ⇒ entered ∷ enter 0 0 ⇒ entered ∷ enter 0 0 ⇒ entered ∷ enter 0 0 ⇒ entered ∷ enter 0 0 ⇒ entered ∷
    enter 0 0 ⇒ entered ∷ enter 0 0 ⇒ entered ∷ enter 0 0 ⇒ entered ∷ enter 0 0 ⇒ entered ∷ enter 0 0 ⇒ entered ∷
    enter 0 0 ⇒ entered ∷ enter 0 0 ⇒ entered ∷ enter 0 0 ⇒ entered ∷ enter 0 0 ⇒ entered ∷ enter 0 0 ⇒ entered ∷
    enter 0 0 ⇒ entered ∷ enter 0 0 ⇒ entered ∷ enter 0 0 ⇒ entered ∷ enter 0 0 ⇒ entered ∷ enter 0 0 ⇒ entered ∷
    enter 0 0 ⇒ entered ∷ enter 0 0 ⇒ entered ∷ enter 0 0 ⇒ entered ∷ enter 0 0 ⇒ entered ∷ enter 0 0 ⇒ entered ∷
    enter 0 0 ⇒ entered ∷ enter 0 0 ⇒ entered ∷ enter 0 0 ⇒ entered ∷ enter 0 0 ⇒ entered ∷ enter 0 0 ⇒ entered ∷
    enter 0 0 ⇒ entered ∷ enter 0 0 ⇒ entered ∷ enter 0 0 ⇒ entered ∷ enter 0 0 ⇒ entered ∷ enter 0 0 ⇒ entered ∷
    enter 0 0 ⇒ entered ∷ enter 0 0 ⇒ entered ∷ enter 0 0 ⇒ entered ∷ enter 0 0 ⇒ entered ∷ enter 0 0 ⇒ entered ∷
    enter 0 0 ⇒ entered ∷ enter 0 0 ⇒ entered ∷ enter 0 0 ⇒ entered ∷ enter 0 0 ⇒ entered ∷ enter 0 0 ⇒ entered ∷
    enter 0 0 ⇒ entered ∷ enter 0 0 ⇒ entered ∷ enter 0 0 ⇒ entered ∷ enter 0 0 ⇒ entered ∷ enter 0 0 ⇒ entered ∷
    enter 0 0 ⇒ entered ∷ enter 0 0 ⇒ entered ∷ enter 0 0 ⇒ entered ∷ enter 0 0 ⇒ entered ∷ enter 0 0 ⇒ entered ∷
    enter 0 0 ⇒ entered ∷ enter 0 0 ⇒ entered ∷ enter 0 0 ⇒ entered ∷ enter 0 0 ⇒ entered ∷ enter 0 0 ⇒ entered ∷
    enter 0 0 ⇒ entered ∷ enter 0 0 ⇒ entered ∷ enter 0 0 ⇒ entered ∷ enter 0 0 ⇒ entered ∷ enter 0 0 ⇒ entered ∷
    enter 0 0 ⇒ entered ∷ enter 0 0 ⇒ entered ∷ enter 0 0 ⇒ entered ∷ enter 0 0 ⇒ entered ∷ enter 0 0 ⇒ entered ∷
    enter 0 0 ⇒ entered ∷ enter 0 0 ⇒ entered ∷ enter 0 0 ⇒ entered ∷ enter 0 0 ⇒ entered ∷ enter 0 0 ⇒ entered ∷
    enter 0 0 ⇒ entered ∷ enter 0 0 ⇒ entered ∷ enter 0 0 ⇒ entered ∷ enter 0 0 ⇒ entered ∷ enter 0 0 ⇒ entered ∷
    enter 0 0 ⇒ entered ∷ enter 0 0 ⇒ entered ∷ enter 0 0 ⇒ entered ∷ enter 0 0 ⇒ entered ∷ enter 0 0 ⇒ entered ∷
    enter 0 0 ⇒ entered ∷ enter_code 0 0 1 ⇒ refused DepthFull ∷ enter_code 0 0 2 ⇒ refused DepthFull ∷
    enter_code 0 0 3 ⇒ refused Unknown ∷ leave 0 ⇒ go ∷ enter_code 0 0 1 ⇒ wrong_method ∷ enter_code 0 0 2 ⇒ refused NotOf ∷ []

-- The refusals of Enter in their order. (1 place, 2 slots, 2 methods)
abbrev pub enter_order : List Entry
enter_order =
    install 0 ⇒ code 1 ∷ start ⇒ thread 1 0 ∷ enter_code 0 9 9 ⇒ refused (Illegal New) ∷ wake 0 ⇒ ok ∷ cross 0 ⇒ go ∷
    enter 0 2 ⇒ refused NoSuchMethod ∷ enter_code 0 2 9 ⇒ refused NoSuchMethod ∷ enter_code 0 1 9 ⇒ refused Unknown ∷ enter_code 0 1 1 ⇒ refused Unpublished ∷
    enter 0 0 ⇒ refused Unpublished ∷ begin 0 ⇒ ok ∷ enter_code 0 9 9 ⇒ refused Publishing ∷ end 0 ⇒ ok ∷
    enter_code 0 1 1 ⇒ refused NotOf ∷ enter_code 0 0 0 ⇒ refused Unknown ∷ []

-- The refusals of Exit: frames first, then unpublished changes. (1 place, 4 slots, 2 methods)
abbrev pub exit_order : List Entry
exit_order =
    start ⇒ thread 1 0 ∷ begin 0 ⇒ ok ∷ end 0 ⇒ ok ∷ wake 0 ⇒ ok ∷ cross 0 ⇒ go ∷ install 0 ⇒ code 1 ∷
    ask_depth (1 ∷ []) ⇒ asked 1 ∷ open_oldest ⇒ open_handshake 1 ∷ tell 1 ⇒ told ∷ enter_code 0 0 1 ⇒ entered ∷
    exit 0 ⇒ refused StackNotEmpty ∷ begin 0 ⇒ ok ∷ change 0 ⇒ changes 1 (pos 1) ∷ end 0 ⇒ ok ∷ leave 0 ⇒ stop 1 ∷
    take 0 ⇒ ok ∷ finish 0 ⇒ refused Unpublished ∷ cross 0 ⇒ stop 1 ∷ exit 0 ⇒ refused (Illegal (AtPoll Java)) ∷ []

-- The refusals of Exit: unpublished changes first, then a pending operation. (1 place, 4 slots, 2 methods)
abbrev pub exit_unpublished_before_pending : List Entry
exit_unpublished_before_pending =
    start ⇒ thread 1 0 ∷ begin 0 ⇒ ok ∷ end 0 ⇒ ok ∷ wake 0 ⇒ ok ∷ cross 0 ⇒ go ∷ install 0 ⇒ code 1 ∷
    enter_code 0 0 1 ⇒ entered ∷ begin 0 ⇒ ok ∷ change 0 ⇒ changes 1 (pos 1) ∷ end 0 ⇒ ok ∷ leave 0 ⇒ go ∷ to_vm 0 ⇒ ok ∷
    ask_depth (1 ∷ []) ⇒ asked 1 ∷ open_oldest ⇒ open_handshake 1 ∷ tell 1 ⇒ told ∷ exit 0 ⇒ refused Unpublished ∷
    begin 0 ⇒ ok ∷ change 0 ⇒ changes 1 (negsuc 0) ∷ end 0 ⇒ ok ∷ exit 0 ⇒ refused OperationPending ∷ []

-- A thread that never published exits with an empty stack. (1 place, 1 slot, 1 method)
abbrev pub exit_without_a_publication : List Entry
exit_without_a_publication =
    start ⇒ thread 1 0 ∷ exit 0 ⇒ refused (Illegal New) ∷ wake 0 ⇒ ok ∷ cross 0 ⇒ go ∷ exit 0 ⇒ exited 1 ∷
    start ⇒ thread 2 0 ∷ []

-- A target that exits before its poll is armed is gone, and its operation closes. (1 place, 4 slots, 2 methods)
abbrev pub exit_before_being_told : List Entry
exit_before_being_told =
    start ⇒ thread 1 0 ∷ begin 0 ⇒ ok ∷ end 0 ⇒ ok ∷ wake 0 ⇒ ok ∷ cross 0 ⇒ go ∷ ask_depth (1 ∷ []) ⇒ asked 1 ∷
    open_oldest ⇒ open_handshake 1 ∷ exit 0 ⇒ exited 1 ∷ start ⇒ thread 2 0 ∷ tell 1 ⇒ gone ∷ tell 2 ⇒ refused NotOf ∷
    hold 0 ⇒ refused NotOf ∷ close ⇒ closed 1 ∷ []

-- A new thread that is held is served although it has never published. (1 place, 1 slot, 1 method)
abbrev pub finish_of_a_new_thread : List Entry
finish_of_a_new_thread =
    start ⇒ thread 1 0 ∷ ask_top (1 ∷ []) ⇒ asked 1 ∷ open_oldest ⇒ open_handshake 1 ∷ finish 0 ⇒ refused (Illegal New) ∷
    tell 1 ⇒ told ∷ hold 0 ⇒ ok ∷ wake 0 ⇒ refused Held ∷ finish 0 ⇒ reply 0 ∷ begin 0 ⇒ ok ∷ release 0 ⇒ refused Publishing ∷
    close ⇒ refused Held ∷ end 0 ⇒ ok ∷ release 0 ⇒ ok ∷ hold 0 ⇒ ok ∷ clear 0 ⇒ ok ∷ hold 0 ⇒ refused AlreadyDone ∷
    release 0 ⇒ ok ∷ hold 0 ⇒ refused AlreadyDone ∷ wake 0 ⇒ ok ∷ cross 0 ⇒ go ∷ []

-- A target that starts after Open is gone for that operation; its poll is armed for the next one. (1 place, 1 slot, 1 method)
abbrev pub target_started_later : List Entry
target_started_later =
    ask_depth (1 ∷ []) ⇒ asked 1 ∷ open_oldest ⇒ open_handshake 1 ∷ start ⇒ thread 1 0 ∷ tell 1 ⇒ gone ∷
    hold 0 ⇒ refused NotTold ∷ close ⇒ closed 1 ∷ ask_depth (1 ∷ []) ⇒ asked 2 ∷ open_oldest ⇒ open_handshake 2 ∷
    tell 1 ⇒ told ∷ hold 0 ⇒ ok ∷ []

-- The refusals of Hold in their order. (1 place, 4 slots, 2 methods)
abbrev pub hold_order : List Entry
hold_order =
    start ⇒ thread 1 0 ∷ begin 0 ⇒ ok ∷ end 0 ⇒ ok ∷ wake 0 ⇒ ok ∷ cross 0 ⇒ go ∷ hold 0 ⇒ refused NothingOpen ∷
    ask_depth (1 ∷ []) ⇒ asked 1 ∷ open_oldest ⇒ open_handshake 1 ∷ hold 0 ⇒ refused NotTold ∷ tell 1 ⇒ told ∷
    hold 0 ⇒ refused NotSafe ∷ edge 0 ⇒ stop 1 ∷ take 0 ⇒ ok ∷ hold 0 ⇒ refused NotSafe ∷ finish 0 ⇒ reply 0 ∷
    hold 0 ⇒ refused NotSafe ∷ clear 0 ⇒ ok ∷ hold 0 ⇒ refused AlreadyDone ∷ []

-- A full table refuses an install although it would replace a code in use; a zombie still takes its slot. (1 place, 2 slots, 2 methods)
abbrev pub install_order : List Entry
install_order =
    install 0 ⇒ code 1 ∷ install 1 ⇒ code 2 ∷ install 0 ⇒ refused TableFull ∷ invalidate 1 ⇒ ok ∷
    install 0 ⇒ refused TableFull ∷ look 1 0 ⇒ is_clear ∷ weigh 1 ⇒ retired ∷ install 0 ⇒ refused TableFull ∷
    resolve 0 ⇒ none ∷ free 1 ⇒ ok ∷ install 0 ⇒ code 3 ∷ resolve 0 ⇒ code 3 ∷ []

-- A place that was looked at for a code stays looked at, although a later look is late. (1 place, 1 slot, 1 method)
abbrev pub look_for_good : List Entry
look_for_good =
    install 0 ⇒ code 1 ∷ invalidate 1 ⇒ ok ∷ look 1 0 ⇒ is_clear ∷ start ⇒ thread 1 0 ∷ begin 0 ⇒ ok ∷ end 0 ⇒ ok ∷
    look 1 0 ⇒ late ∷ weigh 1 ⇒ retired ∷ []

-- A place whose thread never ended a publication is clear; after its first End it may be late. (1 place, 1 slot, 1 method)
abbrev pub look_before_the_first_end : List Entry
look_before_the_first_end =
    install 0 ⇒ code 1 ∷ invalidate 1 ⇒ ok ∷ start ⇒ thread 1 0 ∷ look 1 0 ⇒ is_clear ∷ begin 0 ⇒ ok ∷ look 1 0 ⇒ is_clear ∷
    end 0 ⇒ ok ∷ look 1 0 ⇒ late ∷ weigh 1 ⇒ retired ∷ []

-- Names that were never given out are gone in a handshake that lists them, and no targets of a census. (1 place, 4 slots, 2 methods)
abbrev pub names_never_given : List Entry
names_never_given =
    start ⇒ thread 1 0 ∷ begin 0 ⇒ ok ∷ end 0 ⇒ ok ∷ wake 0 ⇒ ok ∷ cross 0 ⇒ go ∷ ask_depth (0 ∷ 99 ∷ []) ⇒ asked 1 ∷
    open_oldest ⇒ open_handshake 1 ∷ tell 0 ⇒ gone ∷ tell 99 ⇒ gone ∷ tell 1 ⇒ refused NotOf ∷ close ⇒ closed 1 ∷
    ask_census ⇒ asked 2 ∷ open_oldest ⇒ open_census 2 ∷ tell 0 ⇒ refused NotOf ∷ tell 2 ⇒ refused NotOf ∷ tell 1 ⇒ told ∷
    tell 1 ⇒ refused AlreadyTold ∷ []

-- A held thread publishes and is served whatever its state. (1 place, 4 slots, 2 methods)
abbrev pub publication_of_a_held_thread : List Entry
publication_of_a_held_thread =
    start ⇒ thread 1 0 ∷ begin 0 ⇒ ok ∷ end 0 ⇒ ok ∷ wake 0 ⇒ ok ∷ cross 0 ⇒ go ∷ to_native 0 ⇒ ok ∷
    begin 0 ⇒ refused (Illegal (InNative Java)) ∷ ask_depth (1 ∷ []) ⇒ asked 1 ∷ open_oldest ⇒ open_handshake 1 ∷
    tell 1 ⇒ told ∷ finish 0 ⇒ refused (Illegal (InNative Java)) ∷ hold 0 ⇒ ok ∷ begin 0 ⇒ ok ∷
    finish 0 ⇒ refused Publishing ∷ end 0 ⇒ ok ∷ finish 0 ⇒ reply 0 ∷ finish 0 ⇒ refused AlreadyDone ∷ []

-- The refusals of Open, Operate and Close where nothing or another kind is open; an open census, or a waiting one where a handshake
-- is open, is named before an empty queue. (1 place, 1 slot, 1 method)
abbrev pub open_order : List Entry
open_order =
    open_oldest ⇒ refused QueueEmpty ∷ ask_depth (1 ∷ []) ⇒ asked 1 ∷ open_oldest ⇒ open_handshake 1 ∷
    open_oldest ⇒ refused QueueEmpty ∷ operate ⇒ refused NotOf ∷ ask_census ⇒ asked 2 ∷ ask_depth (1 ∷ []) ⇒ asked 3 ∷
    open_oldest ⇒ refused AlreadyOpen ∷ close ⇒ closed 1 ∷ operate ⇒ refused NothingOpen ∷ open_oldest ⇒ open_census 2 ∷
    open_oldest ⇒ refused AlreadyOpen ∷ operate ⇒ census [] ∷ close_of 2 ⇒ closed 2 ∷ open_oldest ⇒ open_handshake 3 ∷
    close_of 2 ⇒ refused NotOf ∷ close_of 3 ⇒ closed 3 ∷ close_of 3 ⇒ refused NothingOpen ∷ []

-- The common tests in their order: place, vacant place, open publication, state. (2 places, 1 slot, 1 method)
abbrev pub publishing_before_state : List Entry
publishing_before_state =
    stack 0 ⇒ refused (Illegal Vacant) ∷ change 0 ⇒ refused (Illegal Vacant) ∷ hold 0 ⇒ refused (Illegal Vacant) ∷
    stack 2 ⇒ refused NoSuchPlace ∷ start ⇒ thread 1 0 ∷ change 0 ⇒ refused NotBegun ∷ end 0 ⇒ refused NotBegun ∷
    begin 0 ⇒ ok ∷ begin 0 ⇒ refused Publishing ∷ take 0 ⇒ refused Publishing ∷ hold 0 ⇒ refused Publishing ∷
    release 0 ⇒ refused Publishing ∷ exit 0 ⇒ refused Publishing ∷ stack 0 ⇒ frames [] ∷ end 0 ⇒ ok ∷
    take 0 ⇒ refused (Illegal New) ∷ []

-- A place is covered by invalidation, round, begin and end in this order alone. (1 place, 4 slots, 2 methods)
abbrev pub round_between : List Entry
round_between =
    start ⇒ thread 1 0 ∷ begin 0 ⇒ ok ∷ end 0 ⇒ ok ∷ wake 0 ⇒ ok ∷ cross 0 ⇒ go ∷ install 0 ⇒ code 1 ∷ round ⇒ ok ∷
    invalidate 1 ⇒ ok ∷ begin 0 ⇒ ok ∷ end 0 ⇒ ok ∷ look 1 0 ⇒ late ∷ begin 0 ⇒ ok ∷ round ⇒ ok ∷ end 0 ⇒ ok ∷
    look 1 0 ⇒ late ∷ begin 0 ⇒ ok ∷ look 1 0 ⇒ late ∷ end 0 ⇒ ok ∷ look 1 0 ⇒ is_clear ∷ []

-- A thread stops at each poll until it has cleared. (1 place, 4 slots, 2 methods)
abbrev pub stopped_until_cleared : List Entry
stopped_until_cleared =
    start ⇒ thread 1 0 ∷ begin 0 ⇒ ok ∷ end 0 ⇒ ok ∷ wake 0 ⇒ ok ∷ cross 0 ⇒ go ∷ ask_depth (1 ∷ []) ⇒ asked 1 ∷
    open_oldest ⇒ open_handshake 1 ∷ tell 1 ⇒ told ∷ edge 0 ⇒ stop 1 ∷ take 0 ⇒ ok ∷ cross 0 ⇒ stop 1 ∷ take 0 ⇒ ok ∷
    finish 0 ⇒ reply 0 ∷ cross 0 ⇒ stop 1 ∷ finish 0 ⇒ refused (Illegal (AtPoll Java)) ∷ take 0 ⇒ ok ∷ clear 0 ⇒ ok ∷
    clear 0 ⇒ refused AlreadyDone ∷ finish 0 ⇒ refused AlreadyDone ∷ close ⇒ closed 1 ∷ finish 0 ⇒ refused NothingOpen ∷
    cross 0 ⇒ go ∷ []

-- A freed code is unknown to each call but those of its state and its entry. (1 place, 1 slot, 1 method)
abbrev pub freed_is_unknown : List Entry
freed_is_unknown =
    install 0 ⇒ code 1 ∷ invalidate 1 ⇒ ok ∷ look 1 0 ⇒ is_clear ∷ weigh 1 ⇒ retired ∷ count 1 ⇒ counts 0 ∷
    weigh 1 ⇒ refused NotNotEntrant ∷ look 1 9 ⇒ refused NotNotEntrant ∷ invalidate 1 ⇒ refused NotInUse ∷ free 1 ⇒ ok ∷
    free 1 ⇒ refused Unknown ∷ weigh 1 ⇒ refused Unknown ∷ look 1 9 ⇒ refused Unknown ∷ invalidate 1 ⇒ refused Unknown ∷
    count 1 ⇒ refused Unknown ∷ state 1 ⇒ freed ∷ state 2 ⇒ refused Unknown ∷ []

-- A place that wasn't looked at is reported before the count. (2 places, 4 slots, 2 methods)
abbrev pub not_looked_before_used : List Entry
not_looked_before_used =
    start ⇒ thread 1 0 ∷ begin 0 ⇒ ok ∷ end 0 ⇒ ok ∷ wake 0 ⇒ ok ∷ cross 0 ⇒ go ∷ start ⇒ thread 2 1 ∷ begin 1 ⇒ ok ∷
    end 1 ⇒ ok ∷ wake 1 ⇒ ok ∷ cross 1 ⇒ go ∷ install 0 ⇒ code 1 ∷ enter_code 1 0 1 ⇒ entered ∷ begin 1 ⇒ ok ∷
    change 1 ⇒ changes 1 (pos 1) ∷ end 1 ⇒ ok ∷ invalidate 1 ⇒ ok ∷ weigh 1 ⇒ not_looked 0 ∷ round ⇒ ok ∷ begin 1 ⇒ ok ∷
    end 1 ⇒ ok ∷ look 1 1 ⇒ is_clear ∷ weigh 1 ⇒ not_looked 0 ∷ begin 0 ⇒ ok ∷ end 0 ⇒ ok ∷ look 1 0 ⇒ is_clear ∷
    weigh 1 ⇒ used 1 ∷ []

-- Weigh tests the count, which already includes the Changes of an open publication. (1 place, 4 slots, 2 methods)
abbrev pub weighed_while_publishing : List Entry
weighed_while_publishing =
    start ⇒ thread 1 0 ∷ begin 0 ⇒ ok ∷ end 0 ⇒ ok ∷ wake 0 ⇒ ok ∷ cross 0 ⇒ go ∷ install 0 ⇒ code 1 ∷
    enter_code 0 0 1 ⇒ entered ∷ invalidate 1 ⇒ ok ∷ round ⇒ ok ∷ begin 0 ⇒ ok ∷ weigh 1 ⇒ not_looked 0 ∷ count 1 ⇒ counts 0 ∷
    change 0 ⇒ changes 1 (pos 1) ∷ count 1 ⇒ counts 1 ∷ end 0 ⇒ ok ∷ look 1 0 ⇒ is_clear ∷ leave 0 ⇒ go ∷ weigh 1 ⇒ used 1 ∷
    begin 0 ⇒ ok ∷ weigh 1 ⇒ used 1 ∷ change 0 ⇒ changes 1 (negsuc 0) ∷ weigh 1 ⇒ retired ∷ end 0 ⇒ ok ∷ []

-- An entry of code that isn't in use is answered `wrong method`, whichever method the code was for. (1 place, 4 slots, 2 methods)
abbrev pub wrong_method_of_any_method : List Entry
wrong_method_of_any_method =
    start ⇒ thread 1 0 ∷ begin 0 ⇒ ok ∷ end 0 ⇒ ok ∷ wake 0 ⇒ ok ∷ cross 0 ⇒ go ∷ install 0 ⇒ code 1 ∷ invalidate 1 ⇒ ok ∷
    enter_code 0 1 1 ⇒ wrong_method ∷ round ⇒ ok ∷ begin 0 ⇒ ok ∷ end 0 ⇒ ok ∷ look 1 0 ⇒ is_clear ∷ weigh 1 ⇒ retired ∷
    enter_code 0 1 1 ⇒ wrong_method ∷ free 1 ⇒ ok ∷ enter_code 0 1 1 ⇒ wrong_method ∷ enter_code 0 0 1 ⇒ wrong_method ∷
    stack 0 ⇒ frames [] ∷ []

-- No place is left; an open census is reported before that. (1 place, 1 slot, 1 method)
abbrev pub start_order : List Entry
start_order =
    start ⇒ thread 1 0 ∷ start ⇒ refused PlacesFull ∷ ask_census ⇒ asked 1 ∷ open_oldest ⇒ open_census 1 ∷
    start ⇒ refused SafepointOpen ∷ tell 1 ⇒ told ∷ hold 0 ⇒ ok ∷ operate ⇒ census [] ∷ clear 0 ⇒ ok ∷ release 0 ⇒ ok ∷
    start ⇒ refused SafepointOpen ∷ close ⇒ closed 1 ∷ start ⇒ refused PlacesFull ∷ wake 0 ⇒ ok ∷ cross 0 ⇒ go ∷
    exit 0 ⇒ exited 1 ∷ start ⇒ thread 2 0 ∷ []

-- A held thread can't be held again, and a thread that isn't held can't be released. (1 place, 1 slot, 1 method)
abbrev pub hold_and_release : List Entry
hold_and_release =
    release 1 ⇒ refused NoSuchPlace ∷ release 0 ⇒ refused (Illegal Vacant) ∷ start ⇒ thread 1 0 ∷ release 0 ⇒ refused NotHeld ∷
    ask_depth (1 ∷ []) ⇒ asked 1 ∷ open_oldest ⇒ open_handshake 1 ∷ tell 1 ⇒ told ∷ release 0 ⇒ refused NotHeld ∷ hold 0 ⇒ ok ∷
    hold 0 ⇒ refused Held ∷ release 0 ⇒ ok ∷ release 0 ⇒ refused NotHeld ∷ hold 0 ⇒ ok ∷ []

-- The refusals of Look in their order. (2 places, 1 slot, 1 method)
abbrev pub look_order : List Entry
look_order =
    look 1 2 ⇒ refused Unknown ∷ install 0 ⇒ code 1 ∷ look 1 2 ⇒ refused NotNotEntrant ∷ invalidate 1 ⇒ ok ∷
    look 1 2 ⇒ refused NoSuchPlace ∷ look 1 1 ⇒ is_clear ∷ weigh 1 ⇒ not_looked 0 ∷ look 1 0 ⇒ is_clear ∷ weigh 1 ⇒ retired ∷ []

-- The refusals of Tell in their order. A thread that exited after its poll was armed is gone. (1 place, 4 slots, 2 methods)
abbrev pub tell_order : List Entry
tell_order =
    tell 1 ⇒ refused NothingOpen ∷ start ⇒ thread 1 0 ∷ begin 0 ⇒ ok ∷ end 0 ⇒ ok ∷ wake 0 ⇒ ok ∷ cross 0 ⇒ go ∷
    ask_depth (1 ∷ []) ⇒ asked 1 ∷ open_oldest ⇒ open_handshake 1 ∷ tell 2 ⇒ refused NotOf ∷ tell 1 ⇒ told ∷
    tell 1 ⇒ refused AlreadyTold ∷ edge 0 ⇒ stop 1 ∷ take 0 ⇒ ok ∷ finish 0 ⇒ reply 0 ∷ clear 0 ⇒ ok ∷
    tell 1 ⇒ refused AlreadyTold ∷ cross 0 ⇒ go ∷ exit 0 ⇒ exited 1 ∷ tell 1 ⇒ gone ∷ close ⇒ closed 1 ∷
    tell 1 ⇒ refused NothingOpen ∷ ask_census ⇒ asked 2 ∷ open_oldest ⇒ open_census 2 ∷ tell 1 ⇒ gone ∷ tell 2 ⇒ refused NotOf ∷
    []

-- Each existing method has its code in use, or none. (1 place, 4 slots, 2 methods)
abbrev pub resolve_by_method : List Entry
resolve_by_method =
    resolve 2 ⇒ refused NoSuchMethod ∷ resolve 1 ⇒ none ∷ install 1 ⇒ code 1 ∷ resolve 1 ⇒ code 1 ∷ resolve 0 ⇒ none ∷
    invalidate 1 ⇒ ok ∷ resolve 1 ⇒ none ∷ resolve 2 ⇒ refused NoSuchMethod ∷ []

-- A stopped thread waits for a census only once its poll is armed for it. (1 place, 4 slots, 2 methods)
abbrev pub take_beside_an_untold_census : List Entry
take_beside_an_untold_census =
    start ⇒ thread 1 0 ∷ begin 0 ⇒ ok ∷ end 0 ⇒ ok ∷ wake 0 ⇒ ok ∷ cross 0 ⇒ go ∷ ask_depth (1 ∷ []) ⇒ asked 1 ∷
    open_oldest ⇒ open_handshake 1 ∷ tell 1 ⇒ told ∷ edge 0 ⇒ stop 1 ∷ hold 0 ⇒ ok ∷ finish 0 ⇒ reply 0 ∷ clear 0 ⇒ ok ∷
    release 0 ⇒ ok ∷ close ⇒ closed 1 ∷ ask_census ⇒ asked 2 ∷ open_oldest ⇒ open_census 2 ∷ take 0 ⇒ ok ∷ cross 0 ⇒ go ∷
    tell 1 ⇒ told ∷ edge 0 ⇒ stop 2 ∷ take 0 ⇒ refused NotDone ∷ []

-- The refusals of Close in their order. A live target whose poll wasn't armed isn't done. (1 place, 4 slots, 2 methods)
abbrev pub close_order : List Entry
close_order =
    close ⇒ refused NothingOpen ∷ start ⇒ thread 1 0 ∷ begin 0 ⇒ ok ∷ end 0 ⇒ ok ∷ wake 0 ⇒ ok ∷ cross 0 ⇒ go ∷
    ask_depth (1 ∷ []) ⇒ asked 1 ∷ open_oldest ⇒ open_handshake 1 ∷ close ⇒ refused NotDone ∷ tell 1 ⇒ told ∷
    close ⇒ refused NotDone ∷ to_native 0 ⇒ ok ∷ hold 0 ⇒ ok ∷ close ⇒ refused Held ∷ finish 0 ⇒ reply 0 ∷ release 0 ⇒ ok ∷
    close ⇒ refused NotDone ∷ hold 0 ⇒ ok ∷ clear 0 ⇒ ok ∷ close ⇒ refused Held ∷ release 0 ⇒ ok ∷ close ⇒ closed 1 ∷ []

-- A census without its Operate isn't done, even if no thread is live. (1 place, 1 slot, 1 method)
abbrev pub census_of_nobody : List Entry
census_of_nobody =
    ask_census ⇒ asked 1 ∷ open_oldest ⇒ open_census 1 ∷ close ⇒ refused NotDone ∷ operate ⇒ census [] ∷
    operate ⇒ refused AlreadyDone ∷ close ⇒ closed 1 ∷ []

-- The refusals of Operate in their order. (1 place, 4 slots, 2 methods)
abbrev pub operate_order : List Entry
operate_order =
    operate ⇒ refused NothingOpen ∷ start ⇒ thread 1 0 ∷ begin 0 ⇒ ok ∷ end 0 ⇒ ok ∷ wake 0 ⇒ ok ∷ cross 0 ⇒ go ∷
    ask_depth (9 ∷ []) ⇒ asked 1 ∷ open_oldest ⇒ open_handshake 1 ∷ operate ⇒ refused NotOf ∷ close ⇒ closed 1 ∷
    ask_census ⇒ asked 2 ∷ open_oldest ⇒ open_census 2 ∷ begin 0 ⇒ ok ∷ operate ⇒ refused NotAllHeld ∷ end 0 ⇒ ok ∷
    tell 1 ⇒ told ∷ edge 0 ⇒ stop 2 ∷ hold 0 ⇒ ok ∷ begin 0 ⇒ ok ∷ operate ⇒ refused Publishing ∷ end 0 ⇒ ok ∷
    operate ⇒ census [] ∷ release 0 ⇒ ok ∷ operate ⇒ refused AlreadyDone ∷ close ⇒ refused NotDone ∷ take 0 ⇒ ok ∷
    clear 0 ⇒ ok ∷ close ⇒ closed 2 ∷ []

-- Wake and Take report a wrong state before they report that the thread is held. (1 place, 4 slots, 2 methods)
abbrev pub state_before_held : List Entry
state_before_held =
    start ⇒ thread 1 0 ∷ begin 0 ⇒ ok ∷ end 0 ⇒ ok ∷ wake 0 ⇒ ok ∷ cross 0 ⇒ go ∷ ask_depth (1 ∷ []) ⇒ asked 1 ∷
    open_oldest ⇒ open_handshake 1 ∷ tell 1 ⇒ told ∷ edge 0 ⇒ stop 1 ∷ hold 0 ⇒ ok ∷ wake 0 ⇒ refused (Illegal (AtPoll Java)) ∷
    take 0 ⇒ refused Held ∷ finish 0 ⇒ reply 0 ∷ clear 0 ⇒ ok ∷ release 0 ⇒ ok ∷ take 0 ⇒ ok ∷ cross 0 ⇒ go ∷ close ⇒ closed 1 ∷
    to_native 0 ⇒ ok ∷ ask_depth (1 ∷ []) ⇒ asked 2 ∷ open_oldest ⇒ open_handshake 2 ∷ tell 1 ⇒ told ∷ hold 0 ⇒ ok ∷
    take 0 ⇒ refused (Illegal (InNative Java)) ∷ wake 0 ⇒ refused Held ∷ []

-- A census omits a code that is no longer on a stack, and one that never was. (1 place, 4 slots, 3 methods)
abbrev pub census_without_zeros : List Entry
census_without_zeros =
    start ⇒ thread 1 0 ∷ begin 0 ⇒ ok ∷ end 0 ⇒ ok ∷ wake 0 ⇒ ok ∷ cross 0 ⇒ go ∷ install 0 ⇒ code 1 ∷ install 1 ⇒ code 2 ∷
    install 2 ⇒ code 3 ∷ enter_code 0 0 1 ⇒ entered ∷ begin 0 ⇒ ok ∷ change 0 ⇒ changes 1 (pos 1) ∷ end 0 ⇒ ok ∷ leave 0 ⇒ go ∷
    enter_code 0 1 2 ⇒ entered ∷ enter_code 0 1 2 ⇒ entered ∷ begin 0 ⇒ ok ∷ change 0 ⇒ changes 1 (negsuc 0) ∷
    change 0 ⇒ changes 2 (pos 2) ∷ end 0 ⇒ ok ∷ count 1 ⇒ counts 0 ∷ count 2 ⇒ counts 2 ∷ count 3 ⇒ counts 0 ∷
    ask_census ⇒ asked 1 ∷ open_oldest ⇒ open_census 1 ∷ tell 1 ⇒ told ∷ to_native 0 ⇒ ok ∷ hold 0 ⇒ ok ∷
    operate ⇒ census (counted 2 2 ∷ []) ∷ []

-- In each state, the acts that the tables of states and of events leave out are illegal. (1 place, 1 slot, 1 method)
abbrev pub acts_by_state : List Entry
acts_by_state =
    start ⇒ thread 1 0 ∷ cross 0 ⇒ refused (Illegal New) ∷ enter 0 0 ⇒ refused (Illegal New) ∷ leave 0 ⇒ refused (Illegal New) ∷
    edge 0 ⇒ refused (Illegal New) ∷ to_vm 0 ⇒ refused (Illegal New) ∷ from_vm 0 ⇒ refused (Illegal New) ∷
    to_native 0 ⇒ refused (Illegal New) ∷ block 0 ⇒ refused (Illegal New) ∷ exit 0 ⇒ refused (Illegal New) ∷
    take 0 ⇒ refused (Illegal New) ∷ finish 0 ⇒ refused (Illegal New) ∷ clear 0 ⇒ refused (Illegal New) ∷ wake 0 ⇒ ok ∷
    begin 0 ⇒ refused (Illegal NewTrans) ∷ wake 0 ⇒ refused (Illegal NewTrans) ∷ enter 0 0 ⇒ refused (Illegal NewTrans) ∷
    leave 0 ⇒ refused (Illegal NewTrans) ∷ edge 0 ⇒ refused (Illegal NewTrans) ∷ to_vm 0 ⇒ refused (Illegal NewTrans) ∷
    from_vm 0 ⇒ refused (Illegal NewTrans) ∷ to_native 0 ⇒ refused (Illegal NewTrans) ∷ block 0 ⇒ refused (Illegal NewTrans) ∷
    exit 0 ⇒ refused (Illegal NewTrans) ∷ take 0 ⇒ refused (Illegal NewTrans) ∷ finish 0 ⇒ refused (Illegal NewTrans) ∷
    clear 0 ⇒ refused (Illegal NewTrans) ∷ cross 0 ⇒ go ∷ wake 0 ⇒ refused (Illegal InJava) ∷
    cross 0 ⇒ refused (Illegal InJava) ∷ from_vm 0 ⇒ refused (Illegal InJava) ∷ block 0 ⇒ refused (Illegal InJava) ∷
    take 0 ⇒ refused (Illegal InJava) ∷ finish 0 ⇒ refused (Illegal InJava) ∷ clear 0 ⇒ refused (Illegal InJava) ∷
    to_native 0 ⇒ ok ∷ begin 0 ⇒ refused (Illegal (InNative Java)) ∷ cross 0 ⇒ refused (Illegal (InNative Java)) ∷
    enter 0 0 ⇒ refused (Illegal (InNative Java)) ∷ leave 0 ⇒ refused (Illegal (InNative Java)) ∷
    edge 0 ⇒ refused (Illegal (InNative Java)) ∷ to_vm 0 ⇒ refused (Illegal (InNative Java)) ∷
    from_vm 0 ⇒ refused (Illegal (InNative Java)) ∷ to_native 0 ⇒ refused (Illegal (InNative Java)) ∷
    block 0 ⇒ refused (Illegal (InNative Java)) ∷ exit 0 ⇒ refused (Illegal (InNative Java)) ∷
    take 0 ⇒ refused (Illegal (InNative Java)) ∷ finish 0 ⇒ refused (Illegal (InNative Java)) ∷
    clear 0 ⇒ refused (Illegal (InNative Java)) ∷ wake 0 ⇒ ok ∷ begin 0 ⇒ refused (Illegal (NativeTrans Java)) ∷
    wake 0 ⇒ refused (Illegal (NativeTrans Java)) ∷ enter 0 0 ⇒ refused (Illegal (NativeTrans Java)) ∷
    leave 0 ⇒ refused (Illegal (NativeTrans Java)) ∷ edge 0 ⇒ refused (Illegal (NativeTrans Java)) ∷
    to_vm 0 ⇒ refused (Illegal (NativeTrans Java)) ∷ from_vm 0 ⇒ refused (Illegal (NativeTrans Java)) ∷
    to_native 0 ⇒ refused (Illegal (NativeTrans Java)) ∷ block 0 ⇒ refused (Illegal (NativeTrans Java)) ∷
    exit 0 ⇒ refused (Illegal (NativeTrans Java)) ∷ take 0 ⇒ refused (Illegal (NativeTrans Java)) ∷
    finish 0 ⇒ refused (Illegal (NativeTrans Java)) ∷ clear 0 ⇒ refused (Illegal (NativeTrans Java)) ∷ cross 0 ⇒ go ∷
    edge 0 ⇒ go ∷ to_vm 0 ⇒ ok ∷ wake 0 ⇒ refused (Illegal InVm) ∷ cross 0 ⇒ refused (Illegal InVm) ∷
    enter 0 0 ⇒ refused (Illegal InVm) ∷ leave 0 ⇒ refused (Illegal InVm) ∷ edge 0 ⇒ refused (Illegal InVm) ∷
    to_vm 0 ⇒ refused (Illegal InVm) ∷ take 0 ⇒ refused (Illegal InVm) ∷ finish 0 ⇒ refused (Illegal InVm) ∷
    clear 0 ⇒ refused (Illegal InVm) ∷ to_native 0 ⇒ ok ∷ begin 0 ⇒ refused (Illegal (InNative Vm)) ∷
    cross 0 ⇒ refused (Illegal (InNative Vm)) ∷ enter 0 0 ⇒ refused (Illegal (InNative Vm)) ∷
    leave 0 ⇒ refused (Illegal (InNative Vm)) ∷ edge 0 ⇒ refused (Illegal (InNative Vm)) ∷
    to_vm 0 ⇒ refused (Illegal (InNative Vm)) ∷ from_vm 0 ⇒ refused (Illegal (InNative Vm)) ∷
    to_native 0 ⇒ refused (Illegal (InNative Vm)) ∷ block 0 ⇒ refused (Illegal (InNative Vm)) ∷
    exit 0 ⇒ refused (Illegal (InNative Vm)) ∷ take 0 ⇒ refused (Illegal (InNative Vm)) ∷
    finish 0 ⇒ refused (Illegal (InNative Vm)) ∷ clear 0 ⇒ refused (Illegal (InNative Vm)) ∷ wake 0 ⇒ ok ∷
    begin 0 ⇒ refused (Illegal (NativeTrans Vm)) ∷ wake 0 ⇒ refused (Illegal (NativeTrans Vm)) ∷
    enter 0 0 ⇒ refused (Illegal (NativeTrans Vm)) ∷ leave 0 ⇒ refused (Illegal (NativeTrans Vm)) ∷
    edge 0 ⇒ refused (Illegal (NativeTrans Vm)) ∷ to_vm 0 ⇒ refused (Illegal (NativeTrans Vm)) ∷
    from_vm 0 ⇒ refused (Illegal (NativeTrans Vm)) ∷ to_native 0 ⇒ refused (Illegal (NativeTrans Vm)) ∷
    block 0 ⇒ refused (Illegal (NativeTrans Vm)) ∷ exit 0 ⇒ refused (Illegal (NativeTrans Vm)) ∷
    take 0 ⇒ refused (Illegal (NativeTrans Vm)) ∷ finish 0 ⇒ refused (Illegal (NativeTrans Vm)) ∷
    clear 0 ⇒ refused (Illegal (NativeTrans Vm)) ∷ cross 0 ⇒ go ∷ block 0 ⇒ ok ∷ begin 0 ⇒ refused (Illegal Blocked) ∷
    cross 0 ⇒ refused (Illegal Blocked) ∷ enter 0 0 ⇒ refused (Illegal Blocked) ∷ leave 0 ⇒ refused (Illegal Blocked) ∷
    edge 0 ⇒ refused (Illegal Blocked) ∷ to_vm 0 ⇒ refused (Illegal Blocked) ∷ from_vm 0 ⇒ refused (Illegal Blocked) ∷
    to_native 0 ⇒ refused (Illegal Blocked) ∷ block 0 ⇒ refused (Illegal Blocked) ∷ exit 0 ⇒ refused (Illegal Blocked) ∷
    take 0 ⇒ refused (Illegal Blocked) ∷ finish 0 ⇒ refused (Illegal Blocked) ∷ clear 0 ⇒ refused (Illegal Blocked) ∷
    wake 0 ⇒ ok ∷ begin 0 ⇒ refused (Illegal BlockedTrans) ∷ wake 0 ⇒ refused (Illegal BlockedTrans) ∷
    enter 0 0 ⇒ refused (Illegal BlockedTrans) ∷ leave 0 ⇒ refused (Illegal BlockedTrans) ∷
    edge 0 ⇒ refused (Illegal BlockedTrans) ∷ to_vm 0 ⇒ refused (Illegal BlockedTrans) ∷
    from_vm 0 ⇒ refused (Illegal BlockedTrans) ∷ to_native 0 ⇒ refused (Illegal BlockedTrans) ∷
    block 0 ⇒ refused (Illegal BlockedTrans) ∷ exit 0 ⇒ refused (Illegal BlockedTrans) ∷
    take 0 ⇒ refused (Illegal BlockedTrans) ∷ finish 0 ⇒ refused (Illegal BlockedTrans) ∷
    clear 0 ⇒ refused (Illegal BlockedTrans) ∷ cross 0 ⇒ go ∷ ask_depth (1 ∷ []) ⇒ asked 1 ∷ open_oldest ⇒ open_handshake 1 ∷
    tell 1 ⇒ told ∷ from_vm 0 ⇒ stop 1 ∷ begin 0 ⇒ refused (Illegal (AtPoll Java)) ∷ wake 0 ⇒ refused (Illegal (AtPoll Java)) ∷
    cross 0 ⇒ refused (Illegal (AtPoll Java)) ∷ enter 0 0 ⇒ refused (Illegal (AtPoll Java)) ∷
    leave 0 ⇒ refused (Illegal (AtPoll Java)) ∷ edge 0 ⇒ refused (Illegal (AtPoll Java)) ∷
    to_vm 0 ⇒ refused (Illegal (AtPoll Java)) ∷ from_vm 0 ⇒ refused (Illegal (AtPoll Java)) ∷
    to_native 0 ⇒ refused (Illegal (AtPoll Java)) ∷ block 0 ⇒ refused (Illegal (AtPoll Java)) ∷
    exit 0 ⇒ refused (Illegal (AtPoll Java)) ∷ finish 0 ⇒ refused (Illegal (AtPoll Java)) ∷
    clear 0 ⇒ refused (Illegal (AtPoll Java)) ∷ take 0 ⇒ ok ∷ wake 0 ⇒ refused (Illegal (Serving Java)) ∷
    enter 0 0 ⇒ refused (Illegal (Serving Java)) ∷ leave 0 ⇒ refused (Illegal (Serving Java)) ∷
    edge 0 ⇒ refused (Illegal (Serving Java)) ∷ to_vm 0 ⇒ refused (Illegal (Serving Java)) ∷
    from_vm 0 ⇒ refused (Illegal (Serving Java)) ∷ to_native 0 ⇒ refused (Illegal (Serving Java)) ∷
    block 0 ⇒ refused (Illegal (Serving Java)) ∷ exit 0 ⇒ refused (Illegal (Serving Java)) ∷
    take 0 ⇒ refused (Illegal (Serving Java)) ∷ finish 0 ⇒ reply 0 ∷ clear 0 ⇒ ok ∷ cross 0 ⇒ go ∷ edge 0 ⇒ go ∷
    close ⇒ closed 1 ∷ to_vm 0 ⇒ ok ∷ to_native 0 ⇒ ok ∷ wake 0 ⇒ ok ∷ ask_depth (1 ∷ []) ⇒ asked 2 ∷
    open_oldest ⇒ open_handshake 2 ∷ tell 1 ⇒ told ∷ cross 0 ⇒ stop 2 ∷ begin 0 ⇒ refused (Illegal (AtPoll Vm)) ∷
    wake 0 ⇒ refused (Illegal (AtPoll Vm)) ∷ cross 0 ⇒ refused (Illegal (AtPoll Vm)) ∷
    enter 0 0 ⇒ refused (Illegal (AtPoll Vm)) ∷ leave 0 ⇒ refused (Illegal (AtPoll Vm)) ∷
    edge 0 ⇒ refused (Illegal (AtPoll Vm)) ∷ to_vm 0 ⇒ refused (Illegal (AtPoll Vm)) ∷
    from_vm 0 ⇒ refused (Illegal (AtPoll Vm)) ∷ to_native 0 ⇒ refused (Illegal (AtPoll Vm)) ∷
    block 0 ⇒ refused (Illegal (AtPoll Vm)) ∷ exit 0 ⇒ refused (Illegal (AtPoll Vm)) ∷
    finish 0 ⇒ refused (Illegal (AtPoll Vm)) ∷ clear 0 ⇒ refused (Illegal (AtPoll Vm)) ∷ take 0 ⇒ ok ∷
    wake 0 ⇒ refused (Illegal (Serving Vm)) ∷ enter 0 0 ⇒ refused (Illegal (Serving Vm)) ∷
    leave 0 ⇒ refused (Illegal (Serving Vm)) ∷ edge 0 ⇒ refused (Illegal (Serving Vm)) ∷
    to_vm 0 ⇒ refused (Illegal (Serving Vm)) ∷ from_vm 0 ⇒ refused (Illegal (Serving Vm)) ∷
    to_native 0 ⇒ refused (Illegal (Serving Vm)) ∷ block 0 ⇒ refused (Illegal (Serving Vm)) ∷
    exit 0 ⇒ refused (Illegal (Serving Vm)) ∷ take 0 ⇒ refused (Illegal (Serving Vm)) ∷ cross 0 ⇒ stop 2 ∷ take 0 ⇒ ok ∷
    finish 0 ⇒ reply 0 ∷ clear 0 ⇒ ok ∷ cross 0 ⇒ go ∷ from_vm 0 ⇒ go ∷ exit 0 ⇒ exited 1 ∷ begin 0 ⇒ refused (Illegal Vacant) ∷
    wake 0 ⇒ refused (Illegal Vacant) ∷ cross 0 ⇒ refused (Illegal Vacant) ∷ enter 0 0 ⇒ refused (Illegal Vacant) ∷
    leave 0 ⇒ refused (Illegal Vacant) ∷ edge 0 ⇒ refused (Illegal Vacant) ∷ to_vm 0 ⇒ refused (Illegal Vacant) ∷
    from_vm 0 ⇒ refused (Illegal Vacant) ∷ to_native 0 ⇒ refused (Illegal Vacant) ∷ block 0 ⇒ refused (Illegal Vacant) ∷
    exit 0 ⇒ refused (Illegal Vacant) ∷ take 0 ⇒ refused (Illegal Vacant) ∷ finish 0 ⇒ refused (Illegal Vacant) ∷
    clear 0 ⇒ refused (Illegal Vacant) ∷ change 0 ⇒ refused (Illegal Vacant) ∷ end 0 ⇒ refused (Illegal Vacant) ∷
    hold 0 ⇒ refused (Illegal Vacant) ∷ release 0 ⇒ refused (Illegal Vacant) ∷ stack 0 ⇒ refused (Illegal Vacant) ∷ []

-- While a thread's publication is open, only Change, End and Stack of that thread are accepted. (1 place, 1 slot, 1 method)
abbrev pub acts_while_publishing : List Entry
acts_while_publishing =
    start ⇒ thread 1 0 ∷ begin 0 ⇒ ok ∷ end 0 ⇒ ok ∷ wake 0 ⇒ ok ∷ cross 0 ⇒ go ∷ begin 0 ⇒ ok ∷ begin 0 ⇒ refused Publishing ∷
    wake 0 ⇒ refused Publishing ∷ cross 0 ⇒ refused Publishing ∷ enter 0 0 ⇒ refused Publishing ∷ leave 0 ⇒ refused Publishing ∷
    edge 0 ⇒ refused Publishing ∷ to_vm 0 ⇒ refused Publishing ∷ from_vm 0 ⇒ refused Publishing ∷
    to_native 0 ⇒ refused Publishing ∷ block 0 ⇒ refused Publishing ∷ exit 0 ⇒ refused Publishing ∷
    take 0 ⇒ refused Publishing ∷ finish 0 ⇒ refused Publishing ∷ clear 0 ⇒ refused Publishing ∷ hold 0 ⇒ refused Publishing ∷
    release 0 ⇒ refused Publishing ∷ stack 0 ⇒ frames [] ∷ change 0 ⇒ no_change ∷ end 0 ⇒ ok ∷ end 0 ⇒ refused NotBegun ∷
    release 0 ⇒ refused NotHeld ∷ []

-- Four operations are open, and a handshake is closed by its number. (1 place, 1 slot, 1 method)
abbrev pub open_order_of_four : List Entry
open_order_of_four =
    ask_depth (1 ∷ []) ⇒ asked 1 ∷ ask_depth (1 ∷ []) ⇒ asked 2 ∷ ask_depth (1 ∷ []) ⇒ asked 3 ∷
    ask_depth (1 ∷ []) ⇒ asked 4 ∷ open_oldest ⇒ open_handshake 1 ∷ open_oldest ⇒ open_handshake 2 ∷
    open_oldest ⇒ open_handshake 3 ∷ open_oldest ⇒ open_handshake 4 ∷ open_oldest ⇒ refused AlreadyOpen ∷
    operate ⇒ refused NotOf ∷ close_of 4 ⇒ closed 4 ∷ open_oldest ⇒ refused QueueEmpty ∷ close ⇒ closed 1 ∷ close ⇒ closed 2 ∷
    close ⇒ closed 3 ∷ ask_census ⇒ asked 5 ∷ open_oldest ⇒ open_census 5 ∷ open_oldest ⇒ refused AlreadyOpen ∷ []

-- A held thread keeps open only those operations that it is a target of. (2 places, 4 slots, 2 methods)
abbrev pub held_target_of_another : List Entry
held_target_of_another =
    start ⇒ thread 1 0 ∷ begin 0 ⇒ ok ∷ end 0 ⇒ ok ∷ wake 0 ⇒ ok ∷ cross 0 ⇒ go ∷ start ⇒ thread 2 1 ∷ begin 1 ⇒ ok ∷
    end 1 ⇒ ok ∷ wake 1 ⇒ ok ∷ cross 1 ⇒ go ∷ ask_depth (1 ∷ []) ⇒ asked 1 ∷ ask_depth (2 ∷ []) ⇒ asked 2 ∷
    open_oldest ⇒ open_handshake 1 ∷ open_oldest ⇒ open_handshake 2 ∷ tell 1 ⇒ told ∷ tell 2 ⇒ told ∷ edge 0 ⇒ stop 1 ∷
    edge 1 ⇒ stop 2 ∷ take 0 ⇒ ok ∷ finish 0 ⇒ reply 0 ∷ clear 0 ⇒ ok ∷ hold 1 ⇒ ok ∷ close_of 2 ⇒ refused Held ∷
    close_of 1 ⇒ closed 1 ∷ finish 0 ⇒ refused NotOf ∷ finish 1 ⇒ reply 0 ∷ clear 1 ⇒ ok ∷ release 1 ⇒ ok ∷ close ⇒ closed 2 ∷ []

-- A held target by name, live or not, keeps its operation open. (2 places, 4 slots, 2 methods)
abbrev pub held_target_started_later : List Entry
held_target_started_later =
    start ⇒ thread 1 0 ∷ begin 0 ⇒ ok ∷ end 0 ⇒ ok ∷ wake 0 ⇒ ok ∷ cross 0 ⇒ go ∷ ask_depth (1 ∷ 2 ∷ []) ⇒ asked 1 ∷
    open_oldest ⇒ open_handshake 1 ∷ start ⇒ thread 2 1 ∷ ask_depth (2 ∷ []) ⇒ asked 2 ∷ open_oldest ⇒ open_handshake 2 ∷
    tell 1 ⇒ told ∷ tell 2 ⇒ told ∷ edge 0 ⇒ stop 1 ∷ take 0 ⇒ ok ∷ finish 0 ⇒ reply 0 ∷ clear 0 ⇒ ok ∷ hold 1 ⇒ ok ∷
    close_of 1 ⇒ refused Held ∷ []

-- Finish and Clear take the pending operation with the least number. (1 place, 4 slots, 2 methods)
abbrev pub least_first : List Entry
least_first =
    start ⇒ thread 1 0 ∷ begin 0 ⇒ ok ∷ end 0 ⇒ ok ∷ wake 0 ⇒ ok ∷ cross 0 ⇒ go ∷ ask_depth (1 ∷ []) ⇒ asked 1 ∷
    ask_count 1 (1 ∷ []) ⇒ asked 2 ∷ ask_top (1 ∷ []) ⇒ asked 3 ∷ open_oldest ⇒ open_handshake 1 ∷
    open_oldest ⇒ open_handshake 2 ∷ tell 1 ⇒ told ∷ edge 0 ⇒ stop 1 ∷ tell 1 ⇒ told ∷ take 0 ⇒ ok ∷
    open_oldest ⇒ open_handshake 3 ∷ tell 1 ⇒ told ∷ tell 1 ⇒ refused AlreadyTold ∷ clear 0 ⇒ refused NotDone ∷
    finish 0 ⇒ reply 0 ∷ finish 0 ⇒ reply 0 ∷ clear 0 ⇒ ok ∷ close_of 3 ⇒ refused NotDone ∷ close_of 2 ⇒ refused NotDone ∷
    cross 0 ⇒ stop 3 ∷ close ⇒ closed 1 ∷ hold 0 ⇒ ok ∷ clear 0 ⇒ ok ∷ clear 0 ⇒ refused NotDone ∷ finish 0 ⇒ reply 0 ∷
    finish 0 ⇒ refused AlreadyDone ∷ close_of 2 ⇒ refused Held ∷ release 0 ⇒ ok ∷ close_of 2 ⇒ closed 2 ∷ hold 0 ⇒ ok ∷
    clear 0 ⇒ ok ∷ release 0 ⇒ ok ∷ hold 0 ⇒ refused AlreadyDone ∷ take 0 ⇒ ok ∷ cross 0 ⇒ go ∷ close ⇒ closed 3 ∷ []

-- Each open operation has its own live targets. (1 place, 1 slot, 1 method)
abbrev pub own_live_targets : List Entry
own_live_targets =
    ask_depth (1 ∷ []) ⇒ asked 1 ∷ open_oldest ⇒ open_handshake 1 ∷ start ⇒ thread 1 0 ∷ tell 1 ⇒ gone ∷
    ask_depth (1 ∷ []) ⇒ asked 2 ∷ open_oldest ⇒ open_handshake 2 ∷ tell 1 ⇒ told ∷ tell 1 ⇒ refused AlreadyTold ∷
    close_of 1 ⇒ closed 1 ∷ close ⇒ refused NotDone ∷ hold 0 ⇒ ok ∷ finish 0 ⇒ reply 0 ∷ finish 0 ⇒ refused AlreadyDone ∷
    clear 0 ⇒ ok ∷ release 0 ⇒ ok ∷ close ⇒ closed 2 ∷ []
