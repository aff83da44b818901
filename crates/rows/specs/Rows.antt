-- Worked runs: events and the answers to them, line by line.
use Rattle.std.specs.Prelude.{pos, negsuc, List, [], ◌∷◌}
use Rattle.thread_state.specs.declared.Back.TheVariants.{Java, Vm}
use Rattle.thread_state.specs.declared.State.TheVariants.{Vacant, InJava, InVm, InNative, Blocked, BlockedTrans, AtPoll}
use Rattle.system.specs.declared.answers.Refusal.TheVariants.{NoSuchPlace, Illegal, Publishing, ChangesLeft, Held, NoSuchMethod, Unknown, Unpublished, DepthFull, NotOf, EmptyStack, StackNotEmpty, OperationPending, NotDone, NothingOpen, NotTold, AlreadyDone, NotSafe, SafepointOpen, TableFull, NotInUse, NotZombie, QueueFull, NoTargets, BadTargets, AlreadyOpen, QueueEmpty, AlreadyTold, NotAllHeld}
use Rattle.system.specs.Log.{Entry}
use Rattle.rows.specs.Lines.{◌⇒◌, begin, change, end, wake, cross, enter, enter_code, leave, edge, to_vm, from_vm, to_native, block, exit, take, finish, clear, hold, release, stack, start, install, invalidate, round, look, weigh, free, ask_depth, ask_top, ask_count, ask_census, open_oldest, tell, operate, close, close_of, count, state, resolve, ok, thread, exited, changes, no_change, go, stop, entered, wrong_method, reply, frames, interpreted, compiled, code, none, is_clear, late, not_looked, used, retired, asked, open_handshake, open_census, closed, told, gone, census, counted, counts, in_use, not_entrant, zombie, freed, refused}

-- A publication can't end while a code still has to change; a count changes with its Change. (1 place, 4 slots, 2 methods)
abbrev pub one_publication : List Entry
one_publication =
    start ⇒ thread 1 0 ∷ begin 0 ⇒ ok ∷ end 0 ⇒ ok ∷ wake 0 ⇒ ok ∷ cross 0 ⇒ go ∷ install 0 ⇒ code 1 ∷
    enter_code 0 0 1 ⇒ entered ∷ enter_code 0 0 1 ⇒ entered ∷ leave 0 ⇒ go ∷ count 1 ⇒ counts 0 ∷ begin 0 ⇒ ok ∷
    end 0 ⇒ refused ChangesLeft ∷ change 0 ⇒ changes 1 (pos 1) ∷ change 0 ⇒ no_change ∷ end 0 ⇒ ok ∷ count 1 ⇒ counts 1 ∷ []

-- A push and a pop that cancel leave nothing to publish. (1 place, 4 slots, 2 methods)
abbrev pub cancelled_push : List Entry
cancelled_push =
    start ⇒ thread 1 0 ∷ begin 0 ⇒ ok ∷ end 0 ⇒ ok ∷ wake 0 ⇒ ok ∷ cross 0 ⇒ go ∷ install 0 ⇒ code 1 ∷
    enter_code 0 0 1 ⇒ entered ∷ leave 0 ⇒ go ∷ begin 0 ⇒ ok ∷ change 0 ⇒ no_change ∷ end 0 ⇒ ok ∷ count 1 ⇒ counts 0 ∷ []

-- In the middle of a publication, the changed codes count as on the stack, and the others as published before.
-- (1 place, 4 slots, 2 methods)
abbrev pub publication_code_by_code : List Entry
publication_code_by_code =
    start ⇒ thread 1 0 ∷ begin 0 ⇒ ok ∷ end 0 ⇒ ok ∷ wake 0 ⇒ ok ∷ cross 0 ⇒ go ∷ install 0 ⇒ code 1 ∷ install 1 ⇒ code 2 ∷
    enter_code 0 0 1 ⇒ entered ∷ enter_code 0 1 2 ⇒ entered ∷ begin 0 ⇒ ok ∷ change 0 ⇒ changes 1 (pos 1) ∷
    count 1 ⇒ counts 1 ∷ count 2 ⇒ counts 0 ∷ enter 0 1 ⇒ refused Publishing ∷ change 0 ⇒ changes 2 (pos 1) ∷ end 0 ⇒ ok ∷
    count 2 ⇒ counts 1 ∷ []

-- A look without a round after the invalidation is late. A count of 0 makes no zombie before each place was looked at.
-- (1 place, 4 slots, 2 methods)
abbrev pub look_before_a_round : List Entry
look_before_a_round =
    start ⇒ thread 1 0 ∷ begin 0 ⇒ ok ∷ end 0 ⇒ ok ∷ wake 0 ⇒ ok ∷ cross 0 ⇒ go ∷ install 0 ⇒ code 1 ∷
    enter_code 0 0 1 ⇒ entered ∷ invalidate 1 ⇒ ok ∷ weigh 1 ⇒ not_looked 0 ∷ look 1 0 ⇒ late ∷ count 1 ⇒ counts 0 ∷
    state 1 ⇒ not_entrant ∷ free 1 ⇒ refused NotZombie ∷ []

-- The whole life of a code: entered, invalidated, published, left, weighed, freed. (1 place, 4 slots, 2 methods)
abbrev pub reclaimed_after_use : List Entry
reclaimed_after_use =
    start ⇒ thread 1 0 ∷ begin 0 ⇒ ok ∷ end 0 ⇒ ok ∷ wake 0 ⇒ ok ∷ cross 0 ⇒ go ∷ install 0 ⇒ code 1 ∷
    enter_code 0 0 1 ⇒ entered ∷ invalidate 1 ⇒ ok ∷ weigh 1 ⇒ not_looked 0 ∷ look 1 0 ⇒ late ∷ count 1 ⇒ counts 0 ∷
    state 1 ⇒ not_entrant ∷ free 1 ⇒ refused NotZombie ∷ round ⇒ ok ∷ look 1 0 ⇒ late ∷ begin 0 ⇒ ok ∷
    change 0 ⇒ changes 1 (pos 1) ∷ end 0 ⇒ ok ∷ look 1 0 ⇒ is_clear ∷ weigh 1 ⇒ used 1 ∷ leave 0 ⇒ go ∷ weigh 1 ⇒ used 1 ∷
    begin 0 ⇒ ok ∷ change 0 ⇒ changes 1 (negsuc 0) ∷ end 0 ⇒ ok ∷ weigh 1 ⇒ retired ∷ state 1 ⇒ zombie ∷ free 1 ⇒ ok ∷
    state 1 ⇒ freed ∷ count 1 ⇒ refused Unknown ∷ []

-- A publication that began before the round doesn't cover the place. (1 place, 4 slots, 2 methods)
abbrev pub publication_begun_before_the_round : List Entry
publication_begun_before_the_round =
    start ⇒ thread 1 0 ∷ begin 0 ⇒ ok ∷ end 0 ⇒ ok ∷ wake 0 ⇒ ok ∷ cross 0 ⇒ go ∷ install 0 ⇒ code 1 ∷ begin 0 ⇒ ok ∷
    invalidate 1 ⇒ ok ∷ round ⇒ ok ∷ end 0 ⇒ ok ∷ look 1 0 ⇒ late ∷ begin 0 ⇒ ok ∷ end 0 ⇒ ok ∷ look 1 0 ⇒ is_clear ∷
    weigh 1 ⇒ retired ∷ []

-- A freed slot is used again, and an entry with the old serial is answered `wrong method`. (1 place, 1 slot, 1 method)
abbrev pub slot_used_again : List Entry
slot_used_again =
    start ⇒ thread 1 0 ∷ begin 0 ⇒ ok ∷ end 0 ⇒ ok ∷ wake 0 ⇒ ok ∷ cross 0 ⇒ go ∷ install 0 ⇒ code 1 ∷
    install 0 ⇒ refused TableFull ∷ invalidate 1 ⇒ ok ∷ install 0 ⇒ refused TableFull ∷ round ⇒ ok ∷ begin 0 ⇒ ok ∷
    end 0 ⇒ ok ∷ look 1 0 ⇒ is_clear ∷ weigh 1 ⇒ retired ∷ free 1 ⇒ ok ∷ install 0 ⇒ code 2 ∷
    enter_code 0 0 1 ⇒ wrong_method ∷ enter_code 0 0 2 ⇒ entered ∷ enter_code 0 0 3 ⇒ refused Unknown ∷ resolve 0 ⇒ code 2 ∷ []

-- A method gets its next code while a frame of the old one is on a stack; an entry of the old code is answered `wrong method`.
-- (1 place, 4 slots, 2 methods)
abbrev pub next_code_of_a_method : List Entry
next_code_of_a_method =
    start ⇒ thread 1 0 ∷ begin 0 ⇒ ok ∷ end 0 ⇒ ok ∷ wake 0 ⇒ ok ∷ cross 0 ⇒ go ∷ install 0 ⇒ code 1 ∷
    enter_code 0 0 1 ⇒ entered ∷ invalidate 1 ⇒ ok ∷ install 0 ⇒ code 2 ∷ state 1 ⇒ not_entrant ∷ resolve 0 ⇒ code 2 ∷
    enter_code 0 0 1 ⇒ wrong_method ∷ enter_code 0 0 2 ⇒ entered ∷ look 1 0 ⇒ late ∷ round ⇒ ok ∷ begin 0 ⇒ ok ∷
    change 0 ⇒ changes 1 (pos 1) ∷ change 0 ⇒ changes 2 (pos 1) ∷ end 0 ⇒ ok ∷ look 1 0 ⇒ is_clear ∷ weigh 1 ⇒ used 1 ∷ []

-- A handshake goes by names: the next thread at the place isn't its target. (1 place, 4 slots, 2 methods)
abbrev pub place_used_again : List Entry
place_used_again =
    start ⇒ thread 1 0 ∷ begin 0 ⇒ ok ∷ end 0 ⇒ ok ∷ wake 0 ⇒ ok ∷ cross 0 ⇒ go ∷ ask_depth (1 ∷ []) ⇒ asked 1 ∷
    exit 0 ⇒ exited 1 ∷ start ⇒ thread 2 0 ∷ open_oldest ⇒ open_handshake 1 ∷ tell 1 ⇒ gone ∷ tell 2 ⇒ refused NotOf ∷
    close ⇒ closed 1 ∷ []

-- Two handshakes are open: both are armed, and the thread serves them itself, one after the other. (1 place, 4 slots, 2 methods)
abbrev pub two_operations_in_turn : List Entry
two_operations_in_turn =
    start ⇒ thread 1 0 ∷ begin 0 ⇒ ok ∷ end 0 ⇒ ok ∷ wake 0 ⇒ ok ∷ cross 0 ⇒ go ∷ ask_depth (1 ∷ []) ⇒ asked 1 ∷
    ask_top (1 ∷ []) ⇒ asked 2 ∷ open_oldest ⇒ open_handshake 1 ∷ open_oldest ⇒ open_handshake 2 ∷ tell 1 ⇒ told ∷
    exit 0 ⇒ refused OperationPending ∷ edge 0 ⇒ stop 1 ∷ clear 0 ⇒ refused (Illegal (AtPoll Java)) ∷ take 0 ⇒ ok ∷
    clear 0 ⇒ refused NotDone ∷ finish 0 ⇒ reply 0 ∷ finish 0 ⇒ refused AlreadyDone ∷ close ⇒ refused NotDone ∷ clear 0 ⇒ ok ∷
    cross 0 ⇒ go ∷ close ⇒ closed 1 ∷ open_oldest ⇒ refused QueueEmpty ∷ tell 1 ⇒ told ∷ edge 0 ⇒ stop 2 ∷ take 0 ⇒ ok ∷
    finish 0 ⇒ reply 0 ∷ clear 0 ⇒ ok ∷ cross 0 ⇒ go ∷ close ⇒ closed 2 ∷ []

-- A thread in native code is held, its stack is published, and it is served; it can't wake meanwhile. (1 place, 4 slots, 2 methods)
abbrev pub held_in_native : List Entry
held_in_native =
    start ⇒ thread 1 0 ∷ begin 0 ⇒ ok ∷ end 0 ⇒ ok ∷ wake 0 ⇒ ok ∷ cross 0 ⇒ go ∷ install 0 ⇒ code 1 ∷
    enter_code 0 0 1 ⇒ entered ∷ to_native 0 ⇒ ok ∷ ask_count 1 (1 ∷ []) ⇒ asked 1 ∷ open_oldest ⇒ open_handshake 1 ∷
    hold 0 ⇒ refused NotTold ∷ tell 1 ⇒ told ∷ hold 0 ⇒ ok ∷ wake 0 ⇒ refused Held ∷ finish 0 ⇒ refused Unpublished ∷
    begin 0 ⇒ ok ∷ change 0 ⇒ changes 1 (pos 1) ∷ end 0 ⇒ ok ∷ finish 0 ⇒ reply 1 ∷ clear 0 ⇒ ok ∷ release 0 ⇒ ok ∷
    wake 0 ⇒ ok ∷ cross 0 ⇒ go ∷ close ⇒ closed 1 ∷ count 1 ⇒ counts 1 ∷ []

-- 64 requests wait; the next is refused until one is opened. (1 place, 1 slot, 1 method)
abbrev pub queue_of_censuses : List Entry
queue_of_censuses =
    ask_census ⇒ asked 1 ∷ ask_census ⇒ asked 2 ∷ ask_census ⇒ asked 3 ∷ ask_census ⇒ asked 4 ∷ ask_census ⇒ asked 5 ∷
    ask_census ⇒ asked 6 ∷ ask_census ⇒ asked 7 ∷ ask_census ⇒ asked 8 ∷ ask_census ⇒ asked 9 ∷ ask_census ⇒ asked 10 ∷
    ask_census ⇒ asked 11 ∷ ask_census ⇒ asked 12 ∷ ask_census ⇒ asked 13 ∷ ask_census ⇒ asked 14 ∷ ask_census ⇒ asked 15 ∷
    ask_census ⇒ asked 16 ∷ ask_census ⇒ asked 17 ∷ ask_census ⇒ asked 18 ∷ ask_census ⇒ asked 19 ∷ ask_census ⇒ asked 20 ∷
    ask_census ⇒ asked 21 ∷ ask_census ⇒ asked 22 ∷ ask_census ⇒ asked 23 ∷ ask_census ⇒ asked 24 ∷ ask_census ⇒ asked 25 ∷
    ask_census ⇒ asked 26 ∷ ask_census ⇒ asked 27 ∷ ask_census ⇒ asked 28 ∷ ask_census ⇒ asked 29 ∷ ask_census ⇒ asked 30 ∷
    ask_census ⇒ asked 31 ∷ ask_census ⇒ asked 32 ∷ ask_census ⇒ asked 33 ∷ ask_census ⇒ asked 34 ∷ ask_census ⇒ asked 35 ∷
    ask_census ⇒ asked 36 ∷ ask_census ⇒ asked 37 ∷ ask_census ⇒ asked 38 ∷ ask_census ⇒ asked 39 ∷ ask_census ⇒ asked 40 ∷
    ask_census ⇒ asked 41 ∷ ask_census ⇒ asked 42 ∷ ask_census ⇒ asked 43 ∷ ask_census ⇒ asked 44 ∷ ask_census ⇒ asked 45 ∷
    ask_census ⇒ asked 46 ∷ ask_census ⇒ asked 47 ∷ ask_census ⇒ asked 48 ∷ ask_census ⇒ asked 49 ∷ ask_census ⇒ asked 50 ∷
    ask_census ⇒ asked 51 ∷ ask_census ⇒ asked 52 ∷ ask_census ⇒ asked 53 ∷ ask_census ⇒ asked 54 ∷ ask_census ⇒ asked 55 ∷
    ask_census ⇒ asked 56 ∷ ask_census ⇒ asked 57 ∷ ask_census ⇒ asked 58 ∷ ask_census ⇒ asked 59 ∷ ask_census ⇒ asked 60 ∷
    ask_census ⇒ asked 61 ∷ ask_census ⇒ asked 62 ∷ ask_census ⇒ asked 63 ∷ ask_census ⇒ asked 64 ∷
    ask_census ⇒ refused QueueFull ∷ open_oldest ⇒ open_census 1 ∷ ask_census ⇒ asked 65 ∷ operate ⇒ census [] ∷
    close ⇒ closed 1 ∷ []

-- A census of two threads at a safepoint. (3 places, 4 slots, 2 methods)
abbrev pub safepoint_of_two_threads : List Entry
safepoint_of_two_threads =
    start ⇒ thread 1 0 ∷ begin 0 ⇒ ok ∷ end 0 ⇒ ok ∷ wake 0 ⇒ ok ∷ cross 0 ⇒ go ∷ start ⇒ thread 2 1 ∷ begin 1 ⇒ ok ∷
    end 1 ⇒ ok ∷ wake 1 ⇒ ok ∷ cross 1 ⇒ go ∷ install 0 ⇒ code 1 ∷ enter_code 0 0 1 ⇒ entered ∷ enter_code 1 0 1 ⇒ entered ∷
    enter_code 1 0 1 ⇒ entered ∷ to_native 0 ⇒ ok ∷ ask_census ⇒ asked 1 ∷ open_oldest ⇒ open_census 1 ∷
    start ⇒ refused SafepointOpen ∷ tell 1 ⇒ told ∷ tell 2 ⇒ told ∷ hold 0 ⇒ ok ∷ hold 1 ⇒ refused NotSafe ∷ edge 1 ⇒ stop 1 ∷
    operate ⇒ refused NotAllHeld ∷ take 1 ⇒ refused NotDone ∷ hold 1 ⇒ ok ∷ operate ⇒ refused Unpublished ∷ begin 0 ⇒ ok ∷
    change 0 ⇒ changes 1 (pos 1) ∷ end 0 ⇒ ok ∷ begin 1 ⇒ ok ∷ change 1 ⇒ changes 1 (pos 2) ∷ end 1 ⇒ ok ∷
    operate ⇒ census (counted 1 3 ∷ []) ∷ operate ⇒ refused AlreadyDone ∷ close ⇒ refused Held ∷ clear 0 ⇒ ok ∷ clear 1 ⇒ ok ∷
    release 0 ⇒ ok ∷ release 1 ⇒ ok ∷ close ⇒ closed 1 ∷ take 1 ⇒ ok ∷ cross 1 ⇒ go ∷ start ⇒ thread 3 2 ∷ []

-- 256 frames fit, and one more doesn't. No thread exits with frames. (1 place, 4 slots, 2 methods)
abbrev pub depth_full : List Entry
depth_full =
    start ⇒ thread 1 0 ∷ begin 0 ⇒ ok ∷ end 0 ⇒ ok ∷ wake 0 ⇒ ok ∷ cross 0 ⇒ go ∷ enter 0 0 ⇒ entered ∷ enter 0 0 ⇒ entered ∷
    enter 0 0 ⇒ entered ∷ enter 0 0 ⇒ entered ∷ enter 0 0 ⇒ entered ∷ enter 0 0 ⇒ entered ∷ enter 0 0 ⇒ entered ∷
    enter 0 0 ⇒ entered ∷ enter 0 0 ⇒ entered ∷ enter 0 0 ⇒ entered ∷ enter 0 0 ⇒ entered ∷ enter 0 0 ⇒ entered ∷
    enter 0 0 ⇒ entered ∷ enter 0 0 ⇒ entered ∷ enter 0 0 ⇒ entered ∷ enter 0 0 ⇒ entered ∷ enter 0 0 ⇒ entered ∷
    enter 0 0 ⇒ entered ∷ enter 0 0 ⇒ entered ∷ enter 0 0 ⇒ entered ∷ enter 0 0 ⇒ entered ∷ enter 0 0 ⇒ entered ∷
    enter 0 0 ⇒ entered ∷ enter 0 0 ⇒ entered ∷ enter 0 0 ⇒ entered ∷ enter 0 0 ⇒ entered ∷ enter 0 0 ⇒ entered ∷
    enter 0 0 ⇒ entered ∷ enter 0 0 ⇒ entered ∷ enter 0 0 ⇒ entered ∷ enter 0 0 ⇒ entered ∷ enter 0 0 ⇒ entered ∷
    enter 0 0 ⇒ entered ∷ enter 0 0 ⇒ entered ∷ enter 0 0 ⇒ entered ∷ enter 0 0 ⇒ entered ∷ enter 0 0 ⇒ entered ∷
    enter 0 0 ⇒ entered ∷ enter 0 0 ⇒ entered ∷ enter 0 0 ⇒ entered ∷ enter 0 0 ⇒ entered ∷ enter 0 0 ⇒ entered ∷
    enter 0 0 ⇒ entered ∷ enter 0 0 ⇒ entered ∷ enter 0 0 ⇒ entered ∷ enter 0 0 ⇒ entered ∷ enter 0 0 ⇒ entered ∷
    enter 0 0 ⇒ entered ∷ enter 0 0 ⇒ entered ∷ enter 0 0 ⇒ entered ∷ enter 0 0 ⇒ entered ∷ enter 0 0 ⇒ entered ∷
    enter 0 0 ⇒ entered ∷ enter 0 0 ⇒ entered ∷ enter 0 0 ⇒ entered ∷ enter 0 0 ⇒ entered ∷ enter 0 0 ⇒ entered ∷
    enter 0 0 ⇒ entered ∷ enter 0 0 ⇒ entered ∷ enter 0 0 ⇒ entered ∷ enter 0 0 ⇒ entered ∷ enter 0 0 ⇒ entered ∷
    enter 0 0 ⇒ entered ∷ enter 0 0 ⇒ entered ∷ enter 0 0 ⇒ entered ∷ enter 0 0 ⇒ entered ∷ enter 0 0 ⇒ entered ∷
    enter 0 0 ⇒ entered ∷ enter 0 0 ⇒ entered ∷ enter 0 0 ⇒ entered ∷ enter 0 0 ⇒ entered ∷ enter 0 0 ⇒ entered ∷
    enter 0 0 ⇒ entered ∷ enter 0 0 ⇒ entered ∷ enter 0 0 ⇒ entered ∷ enter 0 0 ⇒ entered ∷ enter 0 0 ⇒ entered ∷
    enter 0 0 ⇒ entered ∷ enter 0 0 ⇒ entered ∷ enter 0 0 ⇒ entered ∷ enter 0 0 ⇒ entered ∷ enter 0 0 ⇒ entered ∷
    enter 0 0 ⇒ entered ∷ enter 0 0 ⇒ entered ∷ enter 0 0 ⇒ entered ∷ enter 0 0 ⇒ entered ∷ enter 0 0 ⇒ entered ∷
    enter 0 0 ⇒ entered ∷ enter 0 0 ⇒ entered ∷ enter 0 0 ⇒ entered ∷ enter 0 0 ⇒ entered ∷ enter 0 0 ⇒ entered ∷
    enter 0 0 ⇒ entered ∷ enter 0 0 ⇒ entered ∷ enter 0 0 ⇒ entered ∷ enter 0 0 ⇒ entered ∷ enter 0 0 ⇒ entered ∷
    enter 0 0 ⇒ entered ∷ enter 0 0 ⇒ entered ∷ enter 0 0 ⇒ entered ∷ enter 0 0 ⇒ entered ∷ enter 0 0 ⇒ entered ∷
    enter 0 0 ⇒ entered ∷ enter 0 0 ⇒ entered ∷ enter 0 0 ⇒ entered ∷ enter 0 0 ⇒ entered ∷ enter 0 0 ⇒ entered ∷
    enter 0 0 ⇒ entered ∷ enter 0 0 ⇒ entered ∷ enter 0 0 ⇒ entered ∷ enter 0 0 ⇒ entered ∷ enter 0 0 ⇒ entered ∷
    enter 0 0 ⇒ entered ∷ enter 0 0 ⇒ entered ∷ enter 0 0 ⇒ entered ∷ enter 0 0 ⇒ entered ∷ enter 0 0 ⇒ entered ∷
    enter 0 0 ⇒ entered ∷ enter 0 0 ⇒ entered ∷ enter 0 0 ⇒ entered ∷ enter 0 0 ⇒ entered ∷ enter 0 0 ⇒ entered ∷
    enter 0 0 ⇒ entered ∷ enter 0 0 ⇒ entered ∷ enter 0 0 ⇒ entered ∷ enter 0 0 ⇒ entered ∷ enter 0 0 ⇒ entered ∷
    enter 0 0 ⇒ entered ∷ enter 0 0 ⇒ entered ∷ enter 0 0 ⇒ entered ∷ enter 0 0 ⇒ entered ∷ enter 0 0 ⇒ entered ∷
    enter 0 0 ⇒ entered ∷ enter 0 0 ⇒ entered ∷ enter 0 0 ⇒ entered ∷ enter 0 0 ⇒ entered ∷ enter 0 0 ⇒ entered ∷
    enter 0 0 ⇒ entered ∷ enter 0 0 ⇒ entered ∷ enter 0 0 ⇒ entered ∷ enter 0 0 ⇒ entered ∷ enter 0 0 ⇒ entered ∷
    enter 0 0 ⇒ entered ∷ enter 0 0 ⇒ entered ∷ enter 0 0 ⇒ entered ∷ enter 0 0 ⇒ entered ∷ enter 0 0 ⇒ entered ∷
    enter 0 0 ⇒ entered ∷ enter 0 0 ⇒ entered ∷ enter 0 0 ⇒ entered ∷ enter 0 0 ⇒ entered ∷ enter 0 0 ⇒ entered ∷
    enter 0 0 ⇒ entered ∷ enter 0 0 ⇒ entered ∷ enter 0 0 ⇒ entered ∷ enter 0 0 ⇒ entered ∷ enter 0 0 ⇒ entered ∷
    enter 0 0 ⇒ entered ∷ enter 0 0 ⇒ entered ∷ enter 0 0 ⇒ entered ∷ enter 0 0 ⇒ entered ∷ enter 0 0 ⇒ entered ∷
    enter 0 0 ⇒ entered ∷ enter 0 0 ⇒ entered ∷ enter 0 0 ⇒ entered ∷ enter 0 0 ⇒ entered ∷ enter 0 0 ⇒ entered ∷
    enter 0 0 ⇒ entered ∷ enter 0 0 ⇒ entered ∷ enter 0 0 ⇒ entered ∷ enter 0 0 ⇒ entered ∷ enter 0 0 ⇒ entered ∷
    enter 0 0 ⇒ entered ∷ enter 0 0 ⇒ entered ∷ enter 0 0 ⇒ entered ∷ enter 0 0 ⇒ entered ∷ enter 0 0 ⇒ entered ∷
    enter 0 0 ⇒ entered ∷ enter 0 0 ⇒ entered ∷ enter 0 0 ⇒ entered ∷ enter 0 0 ⇒ entered ∷ enter 0 0 ⇒ entered ∷
    enter 0 0 ⇒ entered ∷ enter 0 0 ⇒ entered ∷ enter 0 0 ⇒ entered ∷ enter 0 0 ⇒ entered ∷ enter 0 0 ⇒ entered ∷
    enter 0 0 ⇒ entered ∷ enter 0 0 ⇒ entered ∷ enter 0 0 ⇒ entered ∷ enter 0 0 ⇒ entered ∷ enter 0 0 ⇒ entered ∷
    enter 0 0 ⇒ entered ∷ enter 0 0 ⇒ entered ∷ enter 0 0 ⇒ entered ∷ enter 0 0 ⇒ entered ∷ enter 0 0 ⇒ entered ∷
    enter 0 0 ⇒ entered ∷ enter 0 0 ⇒ entered ∷ enter 0 0 ⇒ entered ∷ enter 0 0 ⇒ entered ∷ enter 0 0 ⇒ entered ∷
    enter 0 0 ⇒ entered ∷ enter 0 0 ⇒ entered ∷ enter 0 0 ⇒ entered ∷ enter 0 0 ⇒ entered ∷ enter 0 0 ⇒ entered ∷
    enter 0 0 ⇒ entered ∷ enter 0 0 ⇒ entered ∷ enter 0 0 ⇒ entered ∷ enter 0 0 ⇒ entered ∷ enter 0 0 ⇒ entered ∷
    enter 0 0 ⇒ entered ∷ enter 0 0 ⇒ entered ∷ enter 0 0 ⇒ entered ∷ enter 0 0 ⇒ entered ∷ enter 0 0 ⇒ entered ∷
    enter 0 0 ⇒ entered ∷ enter 0 0 ⇒ entered ∷ enter 0 0 ⇒ entered ∷ enter 0 0 ⇒ entered ∷ enter 0 0 ⇒ entered ∷
    enter 0 0 ⇒ entered ∷ enter 0 0 ⇒ entered ∷ enter 0 0 ⇒ entered ∷ enter 0 0 ⇒ entered ∷ enter 0 0 ⇒ entered ∷
    enter 0 0 ⇒ entered ∷ enter 0 0 ⇒ entered ∷ enter 0 0 ⇒ entered ∷ enter 0 0 ⇒ entered ∷ enter 0 0 ⇒ entered ∷
    enter 0 0 ⇒ entered ∷ enter 0 0 ⇒ entered ∷ enter 0 0 ⇒ entered ∷ enter 0 0 ⇒ entered ∷ enter 0 0 ⇒ entered ∷
    enter 0 0 ⇒ entered ∷ enter 0 0 ⇒ entered ∷ enter 0 0 ⇒ entered ∷ enter 0 0 ⇒ entered ∷ enter 0 0 ⇒ entered ∷
    enter 0 0 ⇒ entered ∷ enter 0 0 ⇒ entered ∷ enter 0 0 ⇒ entered ∷ enter 0 0 ⇒ entered ∷ enter 0 0 ⇒ entered ∷
    enter 0 0 ⇒ entered ∷ enter 0 0 ⇒ entered ∷ enter 0 0 ⇒ entered ∷ enter 0 0 ⇒ entered ∷ enter 0 0 ⇒ entered ∷
    enter 0 0 ⇒ entered ∷ enter 0 0 ⇒ entered ∷ enter 0 0 ⇒ entered ∷ enter 0 0 ⇒ entered ∷ enter 0 0 ⇒ refused DepthFull ∷
    exit 0 ⇒ refused StackNotEmpty ∷ []

-- Places, methods and targets that can't exist, and requests that don't. (64 places, 1024 slots, 256 methods)
abbrev pub numbers_out_of_range : List Entry
numbers_out_of_range =
    begin 64 ⇒ refused NoSuchPlace ∷ wake 63 ⇒ refused (Illegal Vacant) ∷ install 256 ⇒ refused NoSuchMethod ∷
    ask_depth [] ⇒ refused NoTargets ∷ ask_depth (7 ∷ 7 ∷ []) ⇒ refused BadTargets ∷ open_oldest ⇒ refused QueueEmpty ∷
    close ⇒ refused NothingOpen ∷ []

-- A thread exits only once it has published the frames that it left. (1 place, 4 slots, 2 methods)
abbrev pub exit_after_publishing : List Entry
exit_after_publishing =
    start ⇒ thread 1 0 ∷ begin 0 ⇒ ok ∷ end 0 ⇒ ok ∷ wake 0 ⇒ ok ∷ cross 0 ⇒ go ∷ install 0 ⇒ code 1 ∷
    enter_code 0 0 1 ⇒ entered ∷ begin 0 ⇒ ok ∷ change 0 ⇒ changes 1 (pos 1) ∷ end 0 ⇒ ok ∷ leave 0 ⇒ go ∷
    exit 0 ⇒ refused Unpublished ∷ begin 0 ⇒ ok ∷ change 0 ⇒ changes 1 (negsuc 0) ∷ end 0 ⇒ ok ∷ exit 0 ⇒ exited 1 ∷
    count 1 ⇒ counts 0 ∷ []

-- A thread stops on its way out of the VM. (1 place, 4 slots, 2 methods)
abbrev pub stopped_in_the_vm : List Entry
stopped_in_the_vm =
    start ⇒ thread 1 0 ∷ begin 0 ⇒ ok ∷ end 0 ⇒ ok ∷ wake 0 ⇒ ok ∷ cross 0 ⇒ go ∷ block 0 ⇒ refused (Illegal InJava) ∷
    to_vm 0 ⇒ ok ∷ enter 0 0 ⇒ refused (Illegal InVm) ∷ ask_depth (1 ∷ []) ⇒ asked 1 ∷ open_oldest ⇒ open_handshake 1 ∷
    tell 1 ⇒ told ∷ from_vm 0 ⇒ stop 1 ∷ hold 0 ⇒ ok ∷ finish 0 ⇒ reply 0 ∷ clear 0 ⇒ ok ∷ release 0 ⇒ ok ∷ take 0 ⇒ ok ∷
    cross 0 ⇒ go ∷ close ⇒ closed 1 ∷ []

-- An interpreted frame is pushed, shown and popped; an empty stack has nothing to leave. (1 place, 4 slots, 2 methods)
abbrev pub interpreted_frame : List Entry
interpreted_frame =
    start ⇒ thread 1 0 ∷ begin 0 ⇒ ok ∷ end 0 ⇒ ok ∷ wake 0 ⇒ ok ∷ cross 0 ⇒ go ∷ enter 0 1 ⇒ entered ∷
    stack 0 ⇒ frames (interpreted 1 ∷ []) ∷ leave 0 ⇒ go ∷ stack 0 ⇒ frames [] ∷ leave 0 ⇒ refused EmptyStack ∷ []

-- Blocked, native, and the ways back to where the thread came from. (1 place, 4 slots, 2 methods)
abbrev pub blocked_and_native : List Entry
blocked_and_native =
    start ⇒ thread 1 0 ∷ begin 0 ⇒ ok ∷ end 0 ⇒ ok ∷ wake 0 ⇒ ok ∷ cross 0 ⇒ go ∷ to_vm 0 ⇒ ok ∷ block 0 ⇒ ok ∷
    begin 0 ⇒ refused (Illegal Blocked) ∷ wake 0 ⇒ ok ∷ from_vm 0 ⇒ refused (Illegal BlockedTrans) ∷ cross 0 ⇒ go ∷
    to_native 0 ⇒ ok ∷ leave 0 ⇒ refused (Illegal (InNative Vm)) ∷ wake 0 ⇒ ok ∷ cross 0 ⇒ go ∷ from_vm 0 ⇒ go ∷
    enter 0 1 ⇒ entered ∷ stack 0 ⇒ frames (interpreted 1 ∷ []) ∷ []

-- An entry of code that isn't entrant is answered `wrong method`; the method gets new code. (1 place, 4 slots, 2 methods)
abbrev pub entry_of_invalidated_code : List Entry
entry_of_invalidated_code =
    start ⇒ thread 1 0 ∷ begin 0 ⇒ ok ∷ end 0 ⇒ ok ∷ wake 0 ⇒ ok ∷ cross 0 ⇒ go ∷ install 0 ⇒ code 1 ∷
    enter_code 0 0 1 ⇒ entered ∷ invalidate 1 ⇒ ok ∷ enter_code 0 0 1 ⇒ wrong_method ∷ enter 0 0 ⇒ entered ∷
    resolve 0 ⇒ none ∷ install 0 ⇒ code 2 ∷ resolve 0 ⇒ code 2 ∷ invalidate 1 ⇒ refused NotInUse ∷
    enter_code 0 1 2 ⇒ refused NotOf ∷ enter_code 0 0 3 ⇒ refused Unknown ∷ state 2 ⇒ in_use ∷ state 3 ⇒ refused Unknown ∷
    stack 0 ⇒ frames (compiled 0 0 1 ∷ interpreted 0 ∷ []) ∷ []

-- 64 handshakes wait; the next is refused until one is opened. (1 place, 1 slot, 1 method)
abbrev pub queue_of_handshakes : List Entry
queue_of_handshakes =
    ask_depth (1 ∷ []) ⇒ asked 1 ∷ ask_depth (1 ∷ []) ⇒ asked 2 ∷ ask_depth (1 ∷ []) ⇒ asked 3 ∷
    ask_depth (1 ∷ []) ⇒ asked 4 ∷ ask_depth (1 ∷ []) ⇒ asked 5 ∷ ask_depth (1 ∷ []) ⇒ asked 6 ∷
    ask_depth (1 ∷ []) ⇒ asked 7 ∷ ask_depth (1 ∷ []) ⇒ asked 8 ∷ ask_depth (1 ∷ []) ⇒ asked 9 ∷
    ask_depth (1 ∷ []) ⇒ asked 10 ∷ ask_depth (1 ∷ []) ⇒ asked 11 ∷ ask_depth (1 ∷ []) ⇒ asked 12 ∷
    ask_depth (1 ∷ []) ⇒ asked 13 ∷ ask_depth (1 ∷ []) ⇒ asked 14 ∷ ask_depth (1 ∷ []) ⇒ asked 15 ∷
    ask_depth (1 ∷ []) ⇒ asked 16 ∷ ask_depth (1 ∷ []) ⇒ asked 17 ∷ ask_depth (1 ∷ []) ⇒ asked 18 ∷
    ask_depth (1 ∷ []) ⇒ asked 19 ∷ ask_depth (1 ∷ []) ⇒ asked 20 ∷ ask_depth (1 ∷ []) ⇒ asked 21 ∷
    ask_depth (1 ∷ []) ⇒ asked 22 ∷ ask_depth (1 ∷ []) ⇒ asked 23 ∷ ask_depth (1 ∷ []) ⇒ asked 24 ∷
    ask_depth (1 ∷ []) ⇒ asked 25 ∷ ask_depth (1 ∷ []) ⇒ asked 26 ∷ ask_depth (1 ∷ []) ⇒ asked 27 ∷
    ask_depth (1 ∷ []) ⇒ asked 28 ∷ ask_depth (1 ∷ []) ⇒ asked 29 ∷ ask_depth (1 ∷ []) ⇒ asked 30 ∷
    ask_depth (1 ∷ []) ⇒ asked 31 ∷ ask_depth (1 ∷ []) ⇒ asked 32 ∷ ask_depth (1 ∷ []) ⇒ asked 33 ∷
    ask_depth (1 ∷ []) ⇒ asked 34 ∷ ask_depth (1 ∷ []) ⇒ asked 35 ∷ ask_depth (1 ∷ []) ⇒ asked 36 ∷
    ask_depth (1 ∷ []) ⇒ asked 37 ∷ ask_depth (1 ∷ []) ⇒ asked 38 ∷ ask_depth (1 ∷ []) ⇒ asked 39 ∷
    ask_depth (1 ∷ []) ⇒ asked 40 ∷ ask_depth (1 ∷ []) ⇒ asked 41 ∷ ask_depth (1 ∷ []) ⇒ asked 42 ∷
    ask_depth (1 ∷ []) ⇒ asked 43 ∷ ask_depth (1 ∷ []) ⇒ asked 44 ∷ ask_depth (1 ∷ []) ⇒ asked 45 ∷
    ask_depth (1 ∷ []) ⇒ asked 46 ∷ ask_depth (1 ∷ []) ⇒ asked 47 ∷ ask_depth (1 ∷ []) ⇒ asked 48 ∷
    ask_depth (1 ∷ []) ⇒ asked 49 ∷ ask_depth (1 ∷ []) ⇒ asked 50 ∷ ask_depth (1 ∷ []) ⇒ asked 51 ∷
    ask_depth (1 ∷ []) ⇒ asked 52 ∷ ask_depth (1 ∷ []) ⇒ asked 53 ∷ ask_depth (1 ∷ []) ⇒ asked 54 ∷
    ask_depth (1 ∷ []) ⇒ asked 55 ∷ ask_depth (1 ∷ []) ⇒ asked 56 ∷ ask_depth (1 ∷ []) ⇒ asked 57 ∷
    ask_depth (1 ∷ []) ⇒ asked 58 ∷ ask_depth (1 ∷ []) ⇒ asked 59 ∷ ask_depth (1 ∷ []) ⇒ asked 60 ∷
    ask_depth (1 ∷ []) ⇒ asked 61 ∷ ask_depth (1 ∷ []) ⇒ asked 62 ∷ ask_depth (1 ∷ []) ⇒ asked 63 ∷
    ask_depth (1 ∷ []) ⇒ asked 64 ∷ ask_depth (1 ∷ []) ⇒ refused QueueFull ∷ open_oldest ⇒ open_handshake 1 ∷
    ask_depth (1 ∷ []) ⇒ asked 65 ∷ tell 1 ⇒ gone ∷ close ⇒ closed 1 ∷ []

-- Depth, count and top of one stack, before and after a pop. (1 place, 4 slots, 2 methods)
abbrev pub asks_of_a_stack : List Entry
asks_of_a_stack =
    start ⇒ thread 1 0 ∷ begin 0 ⇒ ok ∷ end 0 ⇒ ok ∷ wake 0 ⇒ ok ∷ cross 0 ⇒ go ∷ install 0 ⇒ code 1 ∷
    enter_code 0 0 1 ⇒ entered ∷ enter 0 1 ⇒ entered ∷ enter_code 0 0 1 ⇒ entered ∷ begin 0 ⇒ ok ∷
    change 0 ⇒ changes 1 (pos 2) ∷ end 0 ⇒ ok ∷ ask_depth (1 ∷ []) ⇒ asked 1 ∷ open_oldest ⇒ open_handshake 1 ∷
    tell 1 ⇒ told ∷ edge 0 ⇒ stop 1 ∷ take 0 ⇒ ok ∷ finish 0 ⇒ reply 3 ∷ clear 0 ⇒ ok ∷ cross 0 ⇒ go ∷ close ⇒ closed 1 ∷
    ask_count 1 (1 ∷ []) ⇒ asked 2 ∷ open_oldest ⇒ open_handshake 2 ∷ tell 1 ⇒ told ∷ edge 0 ⇒ stop 2 ∷ take 0 ⇒ ok ∷
    finish 0 ⇒ reply 2 ∷ clear 0 ⇒ ok ∷ cross 0 ⇒ go ∷ close ⇒ closed 2 ∷ ask_count 2 (1 ∷ []) ⇒ asked 3 ∷
    open_oldest ⇒ open_handshake 3 ∷ tell 1 ⇒ told ∷ edge 0 ⇒ stop 3 ∷ take 0 ⇒ ok ∷ finish 0 ⇒ reply 0 ∷ clear 0 ⇒ ok ∷
    cross 0 ⇒ go ∷ close ⇒ closed 3 ∷ ask_top (1 ∷ []) ⇒ asked 4 ∷ open_oldest ⇒ open_handshake 4 ∷ tell 1 ⇒ told ∷
    edge 0 ⇒ stop 4 ∷ take 0 ⇒ ok ∷ finish 0 ⇒ reply 1 ∷ clear 0 ⇒ ok ∷ cross 0 ⇒ go ∷ close ⇒ closed 4 ∷ leave 0 ⇒ go ∷
    begin 0 ⇒ ok ∷ change 0 ⇒ changes 1 (negsuc 0) ∷ end 0 ⇒ ok ∷ ask_depth (1 ∷ []) ⇒ asked 5 ∷
    open_oldest ⇒ open_handshake 5 ∷ tell 1 ⇒ told ∷ edge 0 ⇒ stop 5 ∷ take 0 ⇒ ok ∷ finish 0 ⇒ reply 2 ∷ clear 0 ⇒ ok ∷
    cross 0 ⇒ go ∷ close ⇒ closed 5 ∷ ask_count 1 (1 ∷ []) ⇒ asked 6 ∷ open_oldest ⇒ open_handshake 6 ∷ tell 1 ⇒ told ∷
    edge 0 ⇒ stop 6 ∷ take 0 ⇒ ok ∷ finish 0 ⇒ reply 1 ∷ clear 0 ⇒ ok ∷ cross 0 ⇒ go ∷ close ⇒ closed 6 ∷
    ask_count 2 (1 ∷ []) ⇒ asked 7 ∷ open_oldest ⇒ open_handshake 7 ∷ tell 1 ⇒ told ∷ edge 0 ⇒ stop 7 ∷ take 0 ⇒ ok ∷
    finish 0 ⇒ reply 0 ∷ clear 0 ⇒ ok ∷ cross 0 ⇒ go ∷ close ⇒ closed 7 ∷ ask_top (1 ∷ []) ⇒ asked 8 ∷
    open_oldest ⇒ open_handshake 8 ∷ tell 1 ⇒ told ∷ edge 0 ⇒ stop 8 ∷ take 0 ⇒ ok ∷ finish 0 ⇒ reply 0 ∷ clear 0 ⇒ ok ∷
    cross 0 ⇒ go ∷ close ⇒ closed 8 ∷ []

-- A listed thread that starts after Open is no live target. (1 place, 4 slots, 2 methods)
abbrev pub started_after_open : List Entry
started_after_open =
    start ⇒ thread 1 0 ∷ begin 0 ⇒ ok ∷ end 0 ⇒ ok ∷ wake 0 ⇒ ok ∷ cross 0 ⇒ go ∷ ask_depth (1 ∷ 2 ∷ []) ⇒ asked 1 ∷
    open_oldest ⇒ open_handshake 1 ∷ tell 1 ⇒ told ∷ edge 0 ⇒ stop 1 ∷ take 0 ⇒ ok ∷ finish 0 ⇒ reply 0 ∷ clear 0 ⇒ ok ∷
    cross 0 ⇒ go ∷ exit 0 ⇒ exited 1 ∷ start ⇒ thread 2 0 ∷ tell 2 ⇒ gone ∷ close ⇒ closed 1 ∷ []

-- Four handshakes are open: the least pending one is served and cleared first, and each one closes on its own.
-- (1 place, 4 slots, 2 methods)
abbrev pub four_handshakes : List Entry
four_handshakes =
    start ⇒ thread 1 0 ∷ begin 0 ⇒ ok ∷ end 0 ⇒ ok ∷ wake 0 ⇒ ok ∷ cross 0 ⇒ go ∷ enter 0 1 ⇒ entered ∷
    ask_depth (1 ∷ []) ⇒ asked 1 ∷ ask_top (1 ∷ []) ⇒ asked 2 ∷ ask_depth (1 ∷ []) ⇒ asked 3 ∷ ask_depth (2 ∷ []) ⇒ asked 4 ∷
    ask_census ⇒ asked 5 ∷ open_oldest ⇒ open_handshake 1 ∷ open_oldest ⇒ open_handshake 2 ∷ open_oldest ⇒ open_handshake 3 ∷
    open_oldest ⇒ open_handshake 4 ∷ open_oldest ⇒ refused AlreadyOpen ∷ tell 1 ⇒ told ∷ tell 1 ⇒ told ∷ edge 0 ⇒ stop 2 ∷
    take 0 ⇒ ok ∷ finish 0 ⇒ reply 1 ∷ clear 0 ⇒ ok ∷ cross 0 ⇒ stop 2 ∷ close_of 3 ⇒ refused NotDone ∷ close ⇒ closed 1 ∷
    take 0 ⇒ ok ∷ tell 1 ⇒ told ∷ finish 0 ⇒ reply 0 ∷ clear 0 ⇒ ok ∷ finish 0 ⇒ reply 1 ∷ clear 0 ⇒ ok ∷
    tell 1 ⇒ refused AlreadyTold ∷ cross 0 ⇒ go ∷ close_of 3 ⇒ closed 3 ∷ open_oldest ⇒ refused AlreadyOpen ∷
    close ⇒ closed 2 ∷ close_of 1 ⇒ refused NotOf ∷ tell 1 ⇒ refused NotOf ∷ tell 2 ⇒ gone ∷ close ⇒ closed 4 ∷
    open_oldest ⇒ open_census 5 ∷ []

-- A handshake that lists a name of no thread yet doesn't keep the next one waiting. (1 place, 4 slots, 2 methods)
abbrev pub second_told_alone : List Entry
second_told_alone =
    start ⇒ thread 1 0 ∷ begin 0 ⇒ ok ∷ end 0 ⇒ ok ∷ wake 0 ⇒ ok ∷ cross 0 ⇒ go ∷ ask_depth (2 ∷ []) ⇒ asked 1 ∷
    ask_depth (1 ∷ []) ⇒ asked 2 ∷ open_oldest ⇒ open_handshake 1 ∷ open_oldest ⇒ open_handshake 2 ∷ tell 1 ⇒ told ∷
    edge 0 ⇒ stop 2 ∷ take 0 ⇒ ok ∷ finish 0 ⇒ reply 0 ∷ clear 0 ⇒ ok ∷ cross 0 ⇒ go ∷ exit 0 ⇒ exited 1 ∷
    start ⇒ thread 2 0 ∷ tell 2 ⇒ gone ∷ close ⇒ closed 1 ∷ close ⇒ closed 2 ∷ []

-- Code in use is replaced. (1 place, 4 slots, 2 methods)
abbrev pub install_over : List Entry
install_over =
    start ⇒ thread 1 0 ∷ begin 0 ⇒ ok ∷ end 0 ⇒ ok ∷ wake 0 ⇒ ok ∷ cross 0 ⇒ go ∷ install 0 ⇒ code 1 ∷
    enter_code 0 0 1 ⇒ entered ∷ install 0 ⇒ code 2 ∷ state 1 ⇒ not_entrant ∷ resolve 0 ⇒ code 2 ∷
    enter_code 0 0 1 ⇒ wrong_method ∷ enter_code 0 0 2 ⇒ entered ∷ invalidate 1 ⇒ refused NotInUse ∷ look 1 0 ⇒ late ∷
    round ⇒ ok ∷ begin 0 ⇒ ok ∷ change 0 ⇒ changes 1 (pos 1) ∷ change 0 ⇒ changes 2 (pos 1) ∷ end 0 ⇒ ok ∷
    look 1 0 ⇒ is_clear ∷ weigh 1 ⇒ used 1 ∷ install 0 ⇒ code 3 ∷ install 0 ⇒ code 4 ∷ install 0 ⇒ refused TableFull ∷
    state 4 ⇒ in_use ∷ state 3 ⇒ not_entrant ∷ []
