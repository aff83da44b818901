-- The acts of a thread at its place.
use Rattle.std.specs.Prelude.{ℕ, pos, ◌-ℤ◌, Bool, true, false, not, ◌&&◌, ◌||◌, ◌==◌, nat_lt, length, List, [], ◌∷◌, ◌++◌, Option, Some, None, find, is_some, is_none, take, ◌-◌, if◌then◌else◌}
use Rattle.std.specs.List.{list_any}
use Rattle.thread_state.specs.declared.State.{State}
use Rattle.thread_state.specs.declared.Move.{Move}
use Rattle.thread_state.specs.declared.Move.TheVariants as move
use Rattle.frames.specs.declared.CodeId.{CodeId}
use Rattle.method_table.specs.declared.Code.{Code}
use Rattle.system.specs.declared.events.Act.{Act}
use Rattle.system.specs.declared.events.Act.TheVariants.{Begin, Change, End, Wake, Cross, Enter, Leave, Edge, ToVm, FromVm, ToNative, Block, Exit, Take, Finish, Clear, Hold, Release, Stack}
use Rattle.system.specs.declared.answers.Answer.{Answer}
use Rattle.system.specs.declared.answers.Answer.TheVariants as answer
use Rattle.system.specs.declared.answers.Refusal.{Refusal}
use Rattle.system.specs.declared.answers.Refusal.TheVariants.{Illegal, Publishing, NotBegun, ChangesLeft, Held, NoSuchMethod, Unknown, Unpublished, DepthFull, NotOf, EmptyStack, StackNotEmpty, OperationPending, NotDone, NothingOpen, NotTold, AlreadyDone, NotSafe, NotHeld}
use Rattle.operations.specs.Names.{is_empty}
use Rattle.system.specs.Verdict.{Verdict, refused, accepted, unless◌refuse◌then◌}
use Rattle.thread_state.specs.States.{step, cross, is_safe, may_publish, may_cross, is_in_java, is_in_vm, is_serving}
use Rattle.frames.specs.Stack.{act}
use Rattle.method_table.specs.Codes.{code_of, id_of, is_in_use}
use Rattle.system.specs.Threads.{Thread, is_publishing, changed_codes, next_change, is_settled}
use Rattle.system.specs.Operations.{Requests, Opened, is_marked, with_mark, poll_of, awaits_census}
use Rattle.operations.specs.Requests.{lists, is_target, reply_to}
use Rattle.system.specs.World.{World}

-- The effect of an accepted act: the thread changes, the thread leaves its place vacant, or the requests change.
pub data Effect : Type 0 where
  becomes : Thread → Effect
  leaves : Effect
  marks : Requests → Effect

-- The acts during an open publication.
abbrev pub may_while_publishing : Act → Bool
may_while_publishing Change = true
may_while_publishing End = true
may_while_publishing Stack = true
may_while_publishing other = false

-- The states in which an act is lawful. A callback runs while the thread is held or serves itself. (JEP 312)
abbrev pub lawful_in : Act → Bool → State → Bool
lawful_in Begin held state = held || may_publish state
lawful_in Wake held state = is_some (step state move.Wake)
lawful_in Cross held state = may_cross state
lawful_in (Enter method code) held state = is_in_java state
lawful_in Leave held state = is_in_java state
lawful_in Edge held state = is_in_java state
lawful_in ToVm held state = is_some (step state move.ToVm)
lawful_in FromVm held state = is_in_vm state
lawful_in ToNative held state = is_some (step state move.ToNative)
lawful_in Block held state = is_some (step state move.Block)
lawful_in Exit held state = is_some (step state move.Exit)
lawful_in Take held state = is_some (step state move.Take)
lawful_in Finish held state = held || is_serving state
lawful_in Clear held state = held || is_serving state
lawful_in other held state = true

abbrev pub is_lawful : Act → Thread → Bool
is_lawful act t = lawful_in act t.held t.state

-- The result of a move. After is_lawful every move has a state.
abbrev pub to_state : Thread → Option State → Verdict Effect
to_state t None = refused (Illegal t.state)
to_state t (Some state) = accepted (becomes (record t { state = state })) answer.Done

abbrev pub move_by : Thread → Move → Verdict Effect
move_by t move = to_state t (step t.state move)

-- The answer to a poll.
abbrev pub go_or_stop : Option ℕ → Answer
go_or_stop None = answer.Go
go_or_stop (Some operation) = answer.Stop operation

-- The result of a poll. After is_lawful every poll has a state.
abbrev pub crosses : Thread → Option ℕ → Option State → Verdict Effect
crosses t poll None = refused (Illegal t.state)
crosses t poll (Some state) = accepted (becomes (record t { state = state })) (go_or_stop poll)

-- A poll: the thread goes on, or stops for an operation. (JEP 312: the poll is per thread)
abbrev pub polls : Requests → Thread → Verdict Effect
polls requests t = crosses t (poll_of requests t.name) (cross t.state (is_none (poll_of requests t.name)))

-- The least code that is left changes, and the answer has the difference for the index.
abbrev pub changes : Thread → Option CodeId → Verdict Effect
changes t None = accepted (becomes t) answer.NoChange
changes t (Some code) =
    accepted (becomes (record t { changed = Some (code ∷ changed_codes t) }))
    (answer.Changed code.serial (pos (act code t.stack) -ℤ pos (act code t.shown)))

-- The stack with one more frame on top.
abbrev pub pushed : Thread → ℕ → Option CodeId → Verdict Effect
pushed t method code = accepted (becomes (record t { stack = t.stack ++ record { method = method; code = code } ∷ [] })) answer.Entered

-- A call enters code in use; other code redirects the call. (nmethod: not-entrant code redirects a call at its entry)
abbrev pub enters : Thread → ℕ → Option Code → Verdict Effect
enters t method None = refused Unknown
enters t method (Some code) =
    if is_in_use code.state
    then (unless code.method == method refuse NotOf then pushed t method (Some (id_of code)))
    else accepted (becomes t) answer.WrongMethod

-- A call without a code is interpreted.
abbrev pub calls : List Code → Thread → ℕ → Option ℕ → Verdict Effect
calls codes t method None = pushed t method None
calls codes t method (Some serial) = enters t method (code_of codes serial)

-- A given serial was given out.
abbrev pub is_known : List Code → Option ℕ → Bool
is_known codes None = true
is_known codes (Some serial) = is_some (code_of codes serial)

-- A call, with the tests in their order. A redirected call passes them too.
abbrev pub enter : World → ℕ → Option ℕ → Thread → Verdict Effect
enter w method code t =
    unless nat_lt method w.methods refuse NoSuchMethod then
    unless is_known w.codes code refuse Unknown then
    unless t.published refuse Unpublished then
    unless nat_lt (length t.stack) 256 refuse DepthFull then
    calls w.codes t method code

abbrev pub popped : Thread → Thread
popped t = record t { stack = take (length t.stack - 1) t.stack }

-- The operation was told to the thread; it was told and isn't done; it was told and isn't cleared.
abbrev pub was_told : Requests → ℕ → Opened → Bool
was_told requests name opened = is_marked requests.told opened.number name

abbrev pub is_undone : Requests → ℕ → Opened → Bool
is_undone requests name opened = was_told requests name opened && not (is_marked requests.done opened.number name)

abbrev pub is_uncleared : Requests → ℕ → Opened → Bool
is_uncleared requests name opened = was_told requests name opened && not (is_marked requests.cleared opened.number name)

-- Does the work with the operation found. Without one the event is refused.
abbrev pub in_found : {A : Type 0} → Refusal → Option Opened → (Opened → Verdict A) → Verdict A
in_found refusal None work = refused refusal
in_found refusal (Some opened) work = work opened

-- The callback of a handshake runs once for each target, on a published stack. (JEP 312: by the thread itself or by the
-- coordinator while it keeps the thread blocked)
abbrev pub finish_in : Requests → Thread → Opened → Verdict Effect
finish_in requests t opened =
    unless is_settled t refuse Unpublished then
    accepted (marks (record requests { done = with_mark requests.done opened.number t.name })) (answer.Reply (reply_to opened.request t.stack))

abbrev pub finish : Requests → Thread → Verdict Effect
finish requests t =
    unless not (is_empty requests.opened) refuse NothingOpen then
    unless list_any (λ o. lists o.request t.name) requests.opened refuse NotOf then
    unless list_any (was_told requests t.name) requests.opened refuse NotTold then
    in_found AlreadyDone (find (is_undone requests t.name) requests.opened) (finish_in requests t)

-- The thread may go on after its own work. (JEP 312: it doesn't wait for the other threads)
abbrev pub clear_in : Requests → Thread → Opened → Verdict Effect
clear_in requests t opened =
    unless is_marked requests.done opened.number t.name refuse NotDone then
    accepted (marks (record requests { cleared = with_mark requests.cleared opened.number t.name })) answer.Done

abbrev pub clear : Requests → Thread → Verdict Effect
clear requests t =
    unless not (is_empty requests.opened) refuse NothingOpen then
    unless list_any (λ o. is_target o.request t.name) requests.opened refuse NotOf then
    unless list_any (was_told requests t.name) requests.opened refuse NotTold then
    in_found AlreadyDone (find (is_uncleared requests t.name) requests.opened) (clear_in requests t)

-- The coordinator holds a thread in a safe state. (JEP 312)
abbrev pub hold : Requests → Thread → Verdict Effect
hold requests t =
    unless not (is_empty requests.opened) refuse NothingOpen then
    unless list_any (λ o. is_target o.request t.name) requests.opened refuse NotOf then
    unless list_any (was_told requests t.name) requests.opened refuse NotTold then
    unless list_any (is_uncleared requests t.name) requests.opened refuse AlreadyDone then
    unless not t.held refuse Held then
    unless is_safe t.state refuse NotSafe then
    accepted (becomes (record t { held = true })) answer.Done

-- Does the work with the oldest open operation.
abbrev pub in_open : {A : Type 0} → List Opened → (Opened → Verdict A) → Verdict A
in_open [] work = refused NothingOpen
in_open (opened ∷ others) work = work opened

-- The acts after the common tests.
abbrev pub does : World → Act → Thread → Verdict Effect
does w Begin t = accepted (becomes (record t { changed = Some [] })) answer.Done
does w Change t = unless is_publishing t refuse NotBegun then changes t (next_change t)
does w End t =
    unless is_publishing t refuse NotBegun then
    unless is_none (next_change t) refuse ChangesLeft then
    accepted (becomes (record t { shown = t.stack; published = true; changed = None })) answer.Done
does w Wake t = unless not t.held refuse Held then move_by t move.Wake
does w Cross t = polls w.requests t
does w (Enter method code) t = enter w method code t
does w Leave t = unless not (is_empty t.stack) refuse EmptyStack then polls w.requests (popped t)
does w Edge t = polls w.requests t
does w ToVm t = move_by t move.ToVm
does w FromVm t = polls w.requests t
does w ToNative t = move_by t move.ToNative
does w Block t = move_by t move.Block
does w Exit t =
    unless is_empty t.stack refuse StackNotEmpty then
    unless is_settled t refuse Unpublished then
    unless is_none (poll_of w.requests t.name) refuse OperationPending then
    accepted leaves (answer.Exited t.name)
does w Take t =
    unless not t.held refuse Held then
    unless not (awaits_census w.requests t.name) refuse NotDone then
    move_by t move.Take
does w Finish t = finish w.requests t
does w Clear t = clear w.requests t
does w Hold t = hold w.requests t
does w Release t = unless t.held refuse NotHeld then accepted (becomes (record t { held = false })) answer.Done
does w Stack t = accepted (becomes t) (answer.Frames t.stack)

-- The common tests of all acts, followed by the act.
abbrev pub here : World → Act → Thread → Verdict Effect
here w act t =
    unless not (is_publishing t) || may_while_publishing act refuse Publishing then
    unless is_lawful act t refuse Illegal t.state then
    does w act t
