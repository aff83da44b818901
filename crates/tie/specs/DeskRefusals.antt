-- Which calls the core refuses, and which the desk refuses in the state of the same world.
use Rattle.std.specs.Prelude.{◌≡◌, ◌⊎◌, ℕ, ◌<◌, ◌^◌, true, false, ◌&&◌, ◌==◌, List, length, filter, Option, Some, None}
use Rattle.std.specs.List.{list_any}
use Rattle.bodies.specs.Bodies.{BodyView}
use Rattle.method_table.specs.Codes.{unfreed}
use Rattle.method_table.specs.TableView.{install_fault, invalidate_fault, retire_fault, free_fault}
use Rattle.method_table.specs.declared.table.InstallFault.TheVariants as install
use Rattle.method_table.specs.declared.table.InvalidateFault.TheVariants as invalidate
use Rattle.method_table.specs.declared.table.RetireFault.TheVariants as retire
use Rattle.method_table.specs.declared.table.FreeFault.TheVariants as free
use Rattle.operations.specs.declared.Request.{Request}
use Rattle.operations.specs.Requests.{has_targets, are_targets}
use Rattle.system.specs.declared.events.Event.{Event}
use Rattle.system.specs.declared.events.Event.TheVariants as event
use Rattle.system.specs.declared.answers.Answer.{Answer}
use Rattle.system.specs.declared.answers.Answer.TheVariants as answer
use Rattle.system.specs.declared.answers.Refusal.TheVariants as refusal
use Rattle.system.specs.Operations.{Opened, is_marked}
use Rattle.system.specs.World.{World, start_world, threads, is_live_target}
use Rattle.system.specs.Runs.{answer_to, world_after}
use Rattle.desk.specs.declared.faults.StartFault.TheVariants as start
use Rattle.desk.specs.declared.faults.AskFault.TheVariants as ask
use Rattle.desk.specs.declared.faults.OpenFault.TheVariants as opens
use Rattle.desk.specs.declared.faults.CloseFault.TheVariants as close
use Rattle.desk.specs.declared.faults.OperateFault.TheVariants as operate
use Rattle.desk.specs.declared.faults.CodeFault.TheVariants as code
use Rattle.desk.specs.declared.entries.Entry.TheVariants.{Open}
use Rattle.desk.specs.Machine.{State, Current, Book, has_census, lawful, may_close}
use Rattle.desk.specs.Refusals.{HasFree, MayOperate, start_refused, ask_refused, open_refused, close_refused, install_refused, operate_refused, chosen, holds_target, has_body}
use Rattle.tie.specs.DeskOf.{desk_of, current_of}

-- Where the core refuses a call, the desk refuses it for the same reason. Where the core accepts it, no test of the desk refuses it: only
-- lack of room in the history, or of memory, can. The core gives no other answer.

abbrev pub StartSays : State → ℕ → Book → Answer → Type 0
StartSays s places b (answer.Refused refusal.SafepointOpen) = start_refused s places b start.SafepointOpen
StartSays s places b (answer.Refused refusal.PlacesFull) = start_refused s places b start.PlacesFull
StartSays s places b (answer.Refused refusal.Spent) = start_refused s places b start.Spent
StartSays s places b (answer.Thread name place) = (has_census s.opened ≡ false) × HasFree s places × (s.next_name < 2 ^ 40)
StartSays s places b given = ⊥

-- For an Ask of the request with one job for each target, in order.
abbrev pub AskSays : State → Request → Book → Answer → Type 0
AskSays s r b (answer.Refused refusal.Spent) = ask_refused s r true b ask.Spent
AskSays s r b (answer.Refused refusal.QueueFull) = ask_refused s r true b ask.QueueFull
AskSays s r b (answer.Refused refusal.NoTargets) = ask_refused s r true b ask.NoTargets
AskSays s r b (answer.Refused refusal.BadTargets) = ask_refused s r true b ask.BadTargets
AskSays s r b (answer.Asked n) = (s.next_number < 2 ^ 40) × (length s.waiting < 64) × (has_targets r ≡ true) × (are_targets r && true ≡ true)
AskSays s r b given = ⊥

abbrev pub OpenSays : State → Answer → Type 0
OpenSays s (answer.Refused refusal.AlreadyOpen) = open_refused s opens.AlreadyOpen
OpenSays s (answer.Refused refusal.QueueEmpty) = open_refused s opens.QueueEmpty
OpenSays s (answer.Opened n kind) = lawful s (Open n) ≡ true
OpenSays s given = ⊥

abbrev pub InstallSays : State → ℕ → Book → Answer → Type 0
InstallSays s m b (answer.Refused refusal.NoSuchMethod) = install_refused s m b (code.Install install.NoSuchMethod)
InstallSays s m b (answer.Refused refusal.TableFull) = install_refused s m b (code.Install install.TableFull)
InstallSays s m b (answer.Refused refusal.SerialsSpent) = install_refused s m b (code.Install install.SerialsSpent)
InstallSays s m b (answer.Code serial) = install_fault s.table m ≡ None
InstallSays s m b given = ⊥

abbrev pub InvalidateSays : State → ℕ → Answer → Type 0
InvalidateSays s serial (answer.Refused refusal.Unknown) = invalidate_fault (unfreed s.table.codes serial) ≡ Some invalidate.Unknown
InvalidateSays s serial (answer.Refused refusal.NotInUse) = invalidate_fault (unfreed s.table.codes serial) ≡ Some invalidate.NotInUse
InvalidateSays s serial answer.Done = invalidate_fault (unfreed s.table.codes serial) ≡ None
InvalidateSays s serial given = ⊥

-- For a Weigh, whether or not it retires the code.
abbrev pub RetireSays : State → ℕ → Answer → Type 0
RetireSays s serial (answer.Refused refusal.Unknown) = retire_fault (unfreed s.table.codes serial) ≡ Some retire.Unknown
RetireSays s serial (answer.Refused refusal.NotNotEntrant) = retire_fault (unfreed s.table.codes serial) ≡ Some retire.NotNotEntrant
RetireSays s serial (answer.NotLooked place) = retire_fault (unfreed s.table.codes serial) ≡ None
RetireSays s serial (answer.Used n) = retire_fault (unfreed s.table.codes serial) ≡ None
RetireSays s serial answer.Retired = retire_fault (unfreed s.table.codes serial) ≡ None
RetireSays s serial given = ⊥

abbrev pub FreeSays : State → ℕ → Answer → Type 0
FreeSays s serial (answer.Refused refusal.Unknown) = free_fault (unfreed s.table.codes serial) ≡ Some free.Unknown
FreeSays s serial (answer.Refused refusal.NotZombie) = free_fault (unfreed s.table.codes serial) ≡ Some free.NotZombie
FreeSays s serial answer.Done = free_fault (unfreed s.table.codes serial) ≡ None
FreeSays s serial given = ⊥

-- The bodies are those of the held threads, each exactly once.
pub record AreHeld (w : World) (bs : List BodyView) : Type 0 where
  pub same : (name : ℕ) → has_body name bs ≡ list_any (λ t. t.held && (t.name == name)) (threads w.places)
  pub count : length bs ≡ length (filter (λ t. t.held) (threads w.places))

-- A live target of the chosen open operation has finished and isn't cleared.
pub record AwaitsClear (w : World) (number : Option ℕ) : Type 0 where
  pub opened : Opened
  pub chosen_is : chosen number (desk_of w).opened ≡ Some (current_of w.requests.done w.log opened)
  pub name : ℕ
  pub live : is_live_target w opened name ≡ true
  pub done : (is_marked w.requests.done opened.number name ≡ true) ⊎ (opened.operated ≡ true)
  pub uncleared : is_marked w.requests.cleared opened.number name ≡ false

-- The desk may close the chosen operation, which has this number.
pub record ClosesAtDesk (s : State) (number : Option ℕ) (bs : List BodyView) (n : ℕ) : Type 0 where
  pub opened : Current
  pub chosen_is : chosen number s.opened ≡ Some opened
  pub number_is : opened.number ≡ n
  pub none_held : holds_target opened.request bs ≡ false
  pub over : may_close s.live opened ≡ true

-- The desk has no Clear. Where the core answers NotDone, the desk does too, or a finished target still awaits its Clear.
abbrev pub CloseSays : World → Option ℕ → List BodyView → Answer → Type 0
CloseSays w number bs (answer.Refused refusal.NothingOpen) = close_refused (desk_of w) number bs close.NothingOpen
CloseSays w number bs (answer.Refused refusal.NotOf) = close_refused (desk_of w) number bs close.NotOf
CloseSays w number bs (answer.Refused refusal.Held) = close_refused (desk_of w) number bs close.Held
CloseSays w number bs (answer.Refused refusal.NotDone) = close_refused (desk_of w) number bs close.NotDone ⊎ AwaitsClear w number
CloseSays w number bs (answer.Closed n) = ClosesAtDesk (desk_of w) number bs n
CloseSays w number bs given = ⊥

-- The desk takes only settled bodies, so it has no tests for open or missing publications.
abbrev pub OperateSays : State → List BodyView → Answer → Type 0
OperateSays s bs (answer.Refused refusal.NothingOpen) = operate_refused s bs operate.NothingOpen
OperateSays s bs (answer.Refused refusal.NotOf) = operate_refused s bs operate.NotOf
OperateSays s bs (answer.Refused refusal.AlreadyDone) = operate_refused s bs operate.AlreadyDone
OperateSays s bs (answer.Refused refusal.NotAllHeld) = operate_refused s bs operate.NotAllHeld
OperateSays s bs (answer.Refused refusal.Publishing) = MayOperate s bs
OperateSays s bs (answer.Refused refusal.Unpublished) = MayOperate s bs
OperateSays s bs (answer.Census counts) = MayOperate s bs
OperateSays s bs given = ⊥

-- All of these agree.
pub record AgreesOnRefusals (places : ℕ) (w : World) : Type 0 where
  pub starts : (b : Book) → StartSays (desk_of w) places b (answer_to w event.Start)
  pub asks : (r : Request) (b : Book) → AskSays (desk_of w) r b (answer_to w (event.Ask r))
  pub opens : OpenSays (desk_of w) (answer_to w event.Open)
  pub installs : (m : ℕ) (b : Book) → InstallSays (desk_of w) m b (answer_to w (event.Install m))
  pub invalidates : (serial : ℕ) → InvalidateSays (desk_of w) serial (answer_to w (event.Invalidate serial))
  pub weighs : (serial : ℕ) → RetireSays (desk_of w) serial (answer_to w (event.Weigh serial))
  pub frees : (serial : ℕ) → FreeSays (desk_of w) serial (answer_to w (event.Free serial))
  pub closes : (number : Option ℕ) (bs : List BodyView) → AreHeld w bs → CloseSays w number bs (answer_to w (event.Close number))
  pub operates : (bs : List BodyView) → AreHeld w bs → OperateSays (desk_of w) bs (answer_to w event.Operate)

-- This holds after any events.
abbrev pub RefusalsAgree : Type 0
RefusalsAgree = (places slots methods : ℕ) (events : List Event) → AgreesOnRefusals places (world_after (start_world places slots methods) events)
