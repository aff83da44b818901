-- What each event does to the world, and its answer.
use Rattle.std.specs.Prelude.{ℕ, ◌+◌, Bool, true, false, not, ◌&&◌, ◌||◌, nat_lt, nat_le, ◌==◌, length, List, [], ◌∷◌, ◌++◌, map, filter, find, Option, Some, None, slice_get, slice_set, if◌then◌else◌}
use Rattle.std.specs.List.{list_all, list_any}
use Rattle.thread_state.specs.declared.State.TheVariants.{Vacant, New}
use Rattle.method_table.specs.declared.Code.{Code}
use Rattle.method_table.specs.declared.CodeState.TheVariants.{NotEntrant, Zombie, Freed}
use Rattle.operations.specs.declared.Request.{Request}
use Rattle.operations.specs.declared.Request.TheVariants.{Handshake, Census}
use Rattle.system.specs.declared.events.Act.{Act}
use Rattle.system.specs.declared.events.Event.{Event}
use Rattle.system.specs.declared.events.Event.TheVariants as event
use Rattle.system.specs.declared.answers.Answer.{Answer}
use Rattle.system.specs.declared.answers.Answer.TheVariants as answer
use Rattle.system.specs.declared.answers.Refusal.TheVariants.{NoSuchPlace, Illegal, Publishing, Held, NoSuchMethod, Unknown, Unpublished, NotOf, NotDone, NothingOpen, AlreadyDone, SafepointOpen, PlacesFull, Spent, TableFull, SerialsSpent, NotInUse, NotNotEntrant, NotZombie, QueueFull, NoTargets, BadTargets, AlreadyOpen, QueueEmpty, AlreadyTold, NotAllHeld}
use Rattle.method_table.specs.Numbers.{last_number, below}
use Rattle.operations.specs.Names.{is_empty}
use Rattle.system.specs.Verdict.{Verdict, refused, accepted, unless◌refuse◌then◌}
use Rattle.method_table.specs.Codes.{code_of, unfreed, in_use_for, id_of, is_in_use, is_not_entrant, is_zombie, free_slot, next_serial, with_code, with_state, without_use}
use Rattle.system.specs.Threads.{Thread, is_publishing, is_settled}
use Rattle.system.specs.Operations.{Requests, Waiting, Opened, is_marked, with_mark, marks_of, is_safepoint}
use Rattle.operations.specs.Requests.{is_census, kind_of, is_target, has_targets, are_targets}
use Rattle.system.specs.Log.{names_given, operations_given, moment, is_looked}
use Rattle.system.specs.World.{World, threads, live_names, is_live_target, vacant_place, walk, census, covered}
use Rattle.system.specs.Places.{Effect, becomes, leaves, marks, here, in_open, in_found}

-- Puts a thread at the place, or makes the place vacant.
abbrev pub with_place : World → ℕ → Option Thread → World
with_place w place t = record w { places = slice_set w.places place t }

-- An accepted act changes the world.
abbrev pub lands : World → ℕ → Verdict Effect → Verdict World
lands w place (refused refusal) = refused refusal
lands w place (accepted (becomes t) answer) = accepted (with_place w place (Some t)) answer
lands w place (accepted leaves answer) = accepted (with_place w place None) answer
lands w place (accepted (marks requests) answer) = accepted (record w { requests = requests }) answer

-- An act of the thread at a place: the tests of the place come first.
abbrev pub at : World → ℕ → Act → Option (Option Thread) → Verdict World
at w place act None = refused NoSuchPlace
at w place act (Some None) = refused (Illegal Vacant)
at w place act (Some (Some t)) = lands w place (here w act t)

-- A new thread has an empty stack and no publication.
abbrev pub new_thread : ℕ → Thread
new_thread name = record { name = name; state = New; held = false; published = false; stack = []; shown = []; changed = None }

-- The thread gets the next name and the least vacant place.
abbrev pub start_at : World → Option ℕ → Verdict World
start_at w None = refused PlacesFull
start_at w (Some place) =
    unless nat_lt (names_given w.log) last_number refuse Spent then
    accepted (with_place w place (Some (new_thread (names_given w.log + 1)))) (answer.Thread (names_given w.log + 1) place)

-- No thread starts during a safepoint. (our own choice)
abbrev pub start : World → Verdict World
start w = unless not (is_safepoint w.requests) refuse SafepointOpen then start_at w (vacant_place w.places)

-- The new code gets the next serial and this slot. The code that it replaces becomes not entrant.
abbrev pub install_in : World → ℕ → Option ℕ → Verdict World
install_in w method None = refused TableFull
install_in w method (Some slot) =
    unless nat_le (next_serial w.codes) last_number refuse SerialsSpent then
    accepted (record w { codes = with_code (without_use w.codes (in_use_for w.codes method)) method slot }) (answer.Code (next_serial w.codes))

-- A method has at most one code in use; a new one gets the least free slot.
abbrev pub install : World → ℕ → Verdict World
install w method =
    unless nat_lt method w.methods refuse NoSuchMethod then
    install_in w method (free_slot w.codes w.slots)

-- Does the work with the code found. Without one the event is refused.
abbrev pub of_code : Option Code → (Code → Verdict World) → Verdict World
of_code None work = refused Unknown
of_code (Some code) work = work code

-- No thread enters the code from then on. (nmethod: in use becomes not entrant)
abbrev pub invalidate : World → Code → Verdict World
invalidate w code =
    unless is_in_use code.state refuse NotInUse then
    accepted (record w { codes = with_state w.codes code.serial NotEntrant }) answer.Done

-- The next moment begins.
abbrev pub round : World → Verdict World
round w = unless nat_lt (moment w.log) last_number refuse Spent then accepted w answer.Done

-- The answer to a look.
abbrev pub clear_or_late : Bool → Answer
clear_or_late true = answer.Clear
clear_or_late false = answer.Late

-- Answers whether every frame of the code at the place is published. The log keeps a Clear.
abbrev pub look : World → ℕ → Code → Verdict World
look w place code =
    unless is_not_entrant code.state refuse NotNotEntrant then
    unless nat_lt place (length w.places) refuse NoSuchPlace then
    accepted w (clear_or_late (covered w place code.serial))

-- The least place without a Clear look for the code.
abbrev pub unlooked : World → ℕ → Option ℕ
unlooked w serial = find (λ place. not (is_looked w.log serial place)) (below (length w.places))

-- If all places have a Clear look, the count decides. (nmethod: not entrant becomes zombie once no activation is left)
abbrev pub weigh_all : World → Code → Option ℕ → Verdict World
weigh_all w code (Some place) = accepted w (answer.NotLooked place)
weigh_all w code None =
    if walk w (id_of code) == 0
    then accepted (record w { codes = with_state w.codes code.serial Zombie }) answer.Retired
    else accepted w (answer.Used (walk w (id_of code)))

-- The looks are tested before the count.
abbrev pub weigh : World → Code → Verdict World
weigh w code = unless is_not_entrant code.state refuse NotNotEntrant then weigh_all w code (unlooked w code.serial)

-- A zombie is freed with its slot. (nmethod)
abbrev pub free : World → Code → Verdict World
free w code =
    unless is_zombie code.state refuse NotZombie then
    accepted (record w { codes = with_state w.codes code.serial Freed }) answer.Done

-- Operations wait in a queue, first in, first out. (HotSpot's runtime overview: VM operations wait in a queue)
abbrev pub ask : World → Request → Verdict World
ask w request =
    unless nat_lt (operations_given w.log) last_number refuse Spent then
    unless nat_lt (length w.requests.waiting) 64 refuse QueueFull then
    unless has_targets request refuse NoTargets then
    unless are_targets request refuse BadTargets then
    accepted (record w { requests = record w.requests { waiting = w.requests.waiting ++ record { number = operations_given w.log + 1; request = request } ∷ [] } })
    (answer.Asked (operations_given w.log + 1))

-- The oldest request becomes open. Its live targets are its targets that live at this moment.
abbrev pub open_oldest : World → List Waiting → Verdict World
open_oldest w [] = refused QueueEmpty
open_oldest w (oldest ∷ others) =
    accepted (record w {
      requests = record w.requests {
        waiting = others;
        opened = w.requests.opened ++ record {
          number = oldest.number;
          request = oldest.request;
          live = filter (is_target oldest.request) (live_names w);
          operated = false;
        } ∷ [];
      };
    })
    (answer.Opened oldest.number (kind_of oldest.request))

abbrev pub awaits_safepoint : List Waiting → Bool
awaits_safepoint [] = false
awaits_safepoint (oldest ∷ others) = is_census oldest.request

-- Up to four handshakes are open, or one census alone. (our own choice)
abbrev pub may_open : Requests → Bool
may_open requests =
    nat_lt (length requests.opened) 4
    && not (is_safepoint requests)
    && not (awaits_safepoint requests.waiting && not (is_empty requests.opened))

-- Opens the oldest waiting request.
abbrev pub open_next : World → Verdict World
open_next w = unless may_open w.requests refuse AlreadyOpen then open_oldest w w.requests.waiting

-- A handshake may be told to the threads that it lists, a census to each thread whose name was given out.
abbrev pub may_tell : World → Request → ℕ → Bool
may_tell w (Handshake targets ask) name = is_target (Handshake targets ask) name
may_tell w Census name = nat_lt 0 name && nat_le name (names_given w.log)

-- Arms the poll of a live target. A thread that exited has no poll.
abbrev pub tell_in : World → ℕ → Opened → Verdict World
tell_in w name opened = accepted (record w { requests = record w.requests { told = with_mark w.requests.told opened.number name } }) answer.Told

-- Arms the poll for the oldest operation that has the thread as a live target and wasn't told to it.
abbrev pub tell_oldest : World → ℕ → List Opened → Verdict World
tell_oldest w name [] = accepted w answer.Gone
tell_oldest w name (opened ∷ others) =
    in_found AlreadyTold (find (λ o. not (is_marked w.requests.told o.number name)) (opened ∷ others)) (tell_in w name)

abbrev pub tell : World → ℕ → Verdict World
tell w name =
    unless not (is_empty w.requests.opened) refuse NothingOpen then
    unless list_any (λ o. may_tell w o.request name) w.requests.opened refuse NotOf then
    tell_oldest w name (filter (λ o. is_live_target w o name) w.requests.opened)

-- Each live thread passes.
abbrev pub all_threads : (Thread → Bool) → World → Bool
all_threads test w = list_all test (threads w.places)

-- The operation of this number becomes operated.
abbrev pub operated_if : ℕ → Opened → Opened
operated_if number opened = if opened.number == number then record opened { operated = true } else opened

-- A census of all stacks, while all threads are held. (HotSpot's runtime overview: at a safepoint stacks don't change)
abbrev pub operate : World → Opened → Verdict World
operate w opened =
    unless is_census opened.request refuse NotOf then
    unless not opened.operated refuse AlreadyDone then
    unless all_threads (λ t. t.held) w refuse NotAllHeld then
    unless all_threads (λ t. not (is_publishing t)) w refuse Publishing then
    unless all_threads is_settled w refuse Unpublished then
    accepted (record w {
      requests = record w.requests {
        opened = map (operated_if opened.number) w.requests.opened;
        done = marks_of opened.number (live_names w) ++ w.requests.done;
      };
    })
    (answer.Census (census w))

-- The operation is over: a census is operated, and the operation is cleared for each live target.
abbrev pub is_over : World → Opened → Bool
is_over w opened =
    (not (is_census opened.request) || opened.operated)
    && list_all (λ name. not (is_live_target w opened name) || is_marked w.requests.cleared opened.number name) opened.live

-- Closes an operation that is over, while no target is held. (Its marks stay)
abbrev pub close : World → Opened → Verdict World
close w opened =
    unless all_threads (λ t. not (t.held && is_target opened.request t.name)) w refuse Held then
    unless is_over w opened refuse NotDone then
    accepted (record w { requests = record w.requests { opened = filter (λ o. not (o.number == opened.number)) w.requests.opened } })
    (answer.Closed opened.number)

-- Closes the operation of this number, or the oldest one.
abbrev pub close_of : World → Option ℕ → Verdict World
close_of w None = in_open w.requests.opened (close w)
close_of w (Some number) =
    unless not (is_empty w.requests.opened) refuse NothingOpen then
    in_found NotOf (find (λ o. o.number == number) w.requests.opened) (close w)

-- The published count of the code.
abbrev pub count : World → Code → Verdict World
count w code = accepted w (answer.Count (walk w (id_of code)))

-- The code found, or the answer that there is none.
abbrev pub code_or_none : Option Code → Answer
code_or_none None = answer.NoCode
code_or_none (Some code) = answer.Code code.serial

-- The code in use for a method.
abbrev pub resolve : World → ℕ → Verdict World
resolve w method = unless nat_lt method w.methods refuse NoSuchMethod then accepted w (code_or_none (in_use_for w.codes method))

-- The outcome of each event.
abbrev pub outcome : World → Event → Verdict World
outcome w (event.At place act) = at w place act (slice_get w.places place)
outcome w event.Start = start w
outcome w (event.Install method) = install w method
outcome w (event.Invalidate serial) = of_code (unfreed w.codes serial) (invalidate w)
outcome w event.Round = round w
outcome w (event.Look serial place) = of_code (unfreed w.codes serial) (look w place)
outcome w (event.Weigh serial) = of_code (unfreed w.codes serial) (weigh w)
outcome w (event.Free serial) = of_code (unfreed w.codes serial) (free w)
outcome w (event.Ask request) = ask w request
outcome w event.Open = open_next w
outcome w (event.Tell name) = tell w name
outcome w event.Operate = in_open w.requests.opened (operate w)
outcome w (event.Close number) = close_of w number
outcome w (event.Count serial) = of_code (unfreed w.codes serial) (count w)
outcome w (event.CodeState serial) = of_code (code_of w.codes serial) (λ code. accepted w (answer.State code.state))
outcome w (event.Resolve method) = resolve w method
