-- When each refusal is returned: its test holds, and no test before it.
use Rattle.std.specs.Prelude.{nat_le, ◌&&◌, ◌==◌, slice_get, ◌≡◌, ℕ, ◌+◌, ◌<◌, ◌≤◌, ◌^◌, true, false, Bool, List, [], ◌∷◌, Option, Some, None, length}
use Rattle.std.specs.List.{list_any, list_all}
use Rattle.frames.specs.ImageView.{IsSettled}
use Rattle.bodies.specs.Bodies.{BodyView}
use Rattle.desk.specs.declared.entries.Live.{Live}
use Rattle.operations.specs.declared.Request.{Request}
use Rattle.operations.specs.Requests.{has_targets, are_targets, is_target}
use Rattle.method_table.specs.TableView.{install_fault, retire_fault}
use Rattle.method_table.specs.Codes.{unfreed}
use Rattle.desk.specs.declared.faults.ReclaimFault.{ReclaimFault}
use Rattle.desk.specs.declared.faults.ReclaimFault.TheVariants as reclaim
use Rattle.desk.specs.declared.faults.StartFault.{StartFault}
use Rattle.desk.specs.declared.faults.StartFault.TheVariants as start
use Rattle.desk.specs.declared.faults.AskFault.{AskFault}
use Rattle.desk.specs.declared.faults.AskFault.TheVariants as ask
use Rattle.desk.specs.declared.faults.OpenFault.{OpenFault}
use Rattle.desk.specs.declared.faults.OpenFault.TheVariants as opens
use Rattle.desk.specs.declared.faults.CloseFault.{CloseFault}
use Rattle.desk.specs.declared.faults.CloseFault.TheVariants as close
use Rattle.desk.specs.declared.faults.OperateFault.{OperateFault}
use Rattle.desk.specs.declared.faults.OperateFault.TheVariants as operate
use Rattle.desk.specs.declared.faults.CodeFault.{CodeFault}
use Rattle.desk.specs.declared.faults.CodeFault.TheVariants as code
use Rattle.desk.specs.declared.log.RoomFault.{RoomFault}
use Rattle.desk.specs.declared.log.RoomFault.TheVariants as room
use Rattle.desk.specs.Machine.{State, Current, Book, is_taken, has_census, may_open_more, may_close, steps_of, open_of}
use Rattle.desk.specs.Room.{has_room, entries_kept}
use Rattle.operations.specs.Requests.{is_census}

abbrev pub AllTaken : State → ℕ → Type 0
AllTaken s places = (k : ℕ) → k < places → is_taken k s.live ≡ true

abbrev pub HasFree : State → ℕ → Type 0
HasFree s places = (k : ℕ) × (k < places) × (is_taken k s.live ≡ false)

abbrev pub room_for : Book → ℕ → Bool
room_for b more = has_room (entries_kept b) b.reserved more

-- no test refuses the start, so it fails only for lack of memory
abbrev pub MayStart : State → ℕ → Book → Type 0
MayStart s places b = (has_census s.opened ≡ false) × HasFree s places × (s.next_name < 2 ^ 40) × (room_for b 2 ≡ true)

abbrev pub start_refused : State → ℕ → Book → StartFault → Type 0
start_refused s places b start.SafepointOpen = has_census s.opened ≡ true
start_refused s places b start.PlacesFull = (has_census s.opened ≡ false) × AllTaken s places
start_refused s places b start.Spent = (has_census s.opened ≡ false) × HasFree s places × (2 ^ 40 ≤ s.next_name)
start_refused s places b start.HistoryFull = (has_census s.opened ≡ false) × HasFree s places × (s.next_name < 2 ^ 40) × (room_for b 2 ≡ false)
start_refused s places b start.NoMemory = MayStart s places b

-- no test refuses the request, so it fails only for lack of memory. `fits`: each target has one job with the request's
-- ask, in the same order
abbrev pub MayAsk : State → Request → Bool → Book → Type 0
MayAsk s r fits b = (s.next_number < 2 ^ 40) × (length s.waiting < 64) × (has_targets r ≡ true) × (are_targets r && fits ≡ true) × (room_for b (3 + steps_of r) ≡ true)

abbrev pub ask_refused : State → Request → Bool → Book → AskFault → Type 0
ask_refused s r fits b ask.Spent = 2 ^ 40 ≤ s.next_number
ask_refused s r fits b ask.QueueFull = (s.next_number < 2 ^ 40) × (64 ≤ length s.waiting)
ask_refused s r fits b ask.NoTargets = (s.next_number < 2 ^ 40) × (length s.waiting < 64) × (has_targets r ≡ false)
ask_refused s r fits b ask.BadTargets = (s.next_number < 2 ^ 40) × (length s.waiting < 64) × (has_targets r ≡ true) × (are_targets r && fits ≡ false)
ask_refused s r fits b ask.HistoryFull = (s.next_number < 2 ^ 40) × (length s.waiting < 64) × (has_targets r ≡ true) × (are_targets r && fits ≡ true) × (room_for b (3 + steps_of r) ≡ false)
ask_refused s r fits b ask.NoMemory = MayAsk s r fits b

abbrev pub open_refused : State → OpenFault → Type 0
open_refused s opens.AlreadyOpen = may_open_more s.waiting s.opened ≡ false
open_refused s opens.QueueEmpty = (may_open_more s.waiting s.opened ≡ true) × (s.waiting ≡ [])

-- the test of the oldest open request has this result
abbrev pub front_is : (Current → Bool) → List Current → Bool → Type 0
front_is test [] b = false ≡ true
front_is test (c ∷ cs) b = test c ≡ b

abbrev pub HasOpen : State → Type 0
HasOpen s = 0 < length s.opened

-- the oldest open request
abbrev pub oldest_of : List Current → Option Current
oldest_of [] = None
oldest_of (c ∷ cs) = Some c

-- the open request with this number, or without a number the oldest one
abbrev pub chosen : Option ℕ → List Current → Option Current
chosen None cs = oldest_of cs
chosen (Some n) cs = open_of n cs

-- a body is of a target, live or not. A census targets every thread
abbrev pub holds_target : Request → List BodyView → Bool
holds_target request bs = list_any (λ b. is_target request b.name) bs

abbrev pub close_refused : State → Option ℕ → List BodyView → CloseFault → Type 0
close_refused s number bs close.NothingOpen = s.opened ≡ []
close_refused s number bs close.NotOf = HasOpen s × (chosen number s.opened ≡ None)
close_refused s number bs close.Held = (c : Current) × (chosen number s.opened ≡ Some c) × (holds_target c.request bs ≡ true)
close_refused s number bs close.NotDone = (c : Current) × (chosen number s.opened ≡ Some c) × (holds_target c.request bs ≡ false) × (may_close s.live c ≡ false)

-- no test refuses the install, so it fails only for lack of memory
abbrev pub MayInstall : State → ℕ → Book → Type 0
MayInstall s m b = (install_fault s.table m ≡ None) × (room_for b 4 ≡ true)

abbrev pub install_refused : State → ℕ → Book → CodeFault → Type 0
install_refused s m b (code.Install fault) = install_fault s.table m ≡ Some fault
install_refused s m b code.HistoryFull = (install_fault s.table m ≡ None) × (room_for b 4 ≡ false)
install_refused s m b code.NoMemory = MayInstall s m b

abbrev pub ask_fault : RoomFault → AskFault
ask_fault room.HistoryFull = ask.HistoryFull
ask_fault room.NoMemory = ask.NoMemory

abbrev pub has_body : ℕ → List BodyView → Bool
has_body name bs = list_any (λ b. b.name == name) bs

-- the bodies are those of all live names, and no others
abbrev pub are_all : List Live → List BodyView → Bool
are_all ls bs = (length ls == length bs) && list_all (λ l. has_body l.name bs) ls

abbrev pub AreSettled : List BodyView → Type 0
AreSettled bs = (i : ℕ) (b : BodyView) → slice_get bs i ≡ Some b → IsSettled b.image

abbrev pub front_census : List Current → Bool → Type 0
front_census cs b = front_is (λ c. is_census c.request) cs b

abbrev pub operate_refused : State → List BodyView → OperateFault → Type 0
operate_refused s bs operate.NothingOpen = s.opened ≡ []
operate_refused s bs operate.NotOf = front_is (λ c. is_census c.request) s.opened false
operate_refused s bs operate.AlreadyDone = front_is (λ c. is_census c.request) s.opened true × front_is (λ c. c.operated) s.opened true
operate_refused s bs operate.NotAllHeld = front_is (λ c. is_census c.request) s.opened true × front_is (λ c. c.operated) s.opened false × (are_all s.live bs ≡ false)

-- the open census may be operated over the bodies
abbrev pub MayOperate : State → List BodyView → Type 0
MayOperate s bs = front_is (λ c. is_census c.request) s.opened true × front_is (λ c. c.operated) s.opened false × (are_all s.live bs ≡ true)

-- why the open census can't be operated over the bodies, or None
abbrev pub operate_said : State → List BodyView → Option OperateFault → Type 0
operate_said s bs None = MayOperate s bs
operate_said s bs (Some fault) = operate_refused s bs fault

abbrev pub is_idle : State → Bool
is_idle s = (length s.opened == 0) && (length s.waiting == 0)

abbrev pub ask_refused_if : State → Option Request → (Request → Bool) → Book → AskFault → Type 0
ask_refused_if s None fits b fault = true ≡ false
ask_refused_if s (Some r) fits b fault = ask_refused s r (fits r) b fault

-- why reclaiming a code doesn't begin, in the order of the tests
abbrev pub reclaim_refused : State → ℕ → Option Request → (Request → Bool) → Book → ℕ → ReclaimFault → Type 0
reclaim_refused s serial r fits b moment (reclaim.Code fault) = retire_fault (unfreed s.table.codes serial) ≡ Some fault
reclaim_refused s serial r fits b moment reclaim.AlreadyOpen = (retire_fault (unfreed s.table.codes serial) ≡ None) × (is_idle s ≡ false)
reclaim_refused s serial r fits b moment reclaim.Spent = (retire_fault (unfreed s.table.codes serial) ≡ None) × (is_idle s ≡ true) × (nat_le (2 ^ 40) (moment + 1) ≡ true)
reclaim_refused s serial r fits b moment (reclaim.Ask fault) = (retire_fault (unfreed s.table.codes serial) ≡ None) × (is_idle s ≡ true) × (nat_le (2 ^ 40) (moment + 1) ≡ false) × ask_refused_if s r fits b fault
