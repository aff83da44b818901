-- The cases of an event: it is refused, or one of these. Every law of events is proved by these cases.
use Rattle.std.specs.Prelude.{◌≡◌, ℕ, ◌+◌, ◌<◌, true, false, List, Option, Some, None}
use Rattle.frames.specs.declared.CodeId.{CodeId}
use Rattle.thread_state.specs.declared.State.{State}
use Rattle.method_table.specs.declared.Code.{Code}
use Rattle.method_table.specs.declared.CodeState.TheVariants.{InUse, NotEntrant, Zombie, Freed}
use Rattle.operations.specs.declared.Request.{Request}
use Rattle.system.specs.declared.events.Act.{Act}
use Rattle.system.specs.declared.events.Act.TheVariants as act
use Rattle.system.specs.declared.events.Event.{Event}
use Rattle.system.specs.declared.events.Event.TheVariants as event
use Rattle.system.specs.declared.answers.Answer.{Answer}
use Rattle.system.specs.declared.answers.Answer.TheVariants as answer
use Rattle.system.specs.declared.answers.Refusal.{Refusal}
use Rattle.method_table.specs.Numbers.{last_number}
use Rattle.method_table.specs.Codes.{id_of, code_of, unfreed, in_use_for, next_serial, with_code, with_state}
use Rattle.operations.specs.Requests.{kind_of, reply_to}
use Rattle.system.specs.Threads.{Thread}
use Rattle.system.specs.Operations.{Waiting, Opened, poll_of}
use Rattle.system.specs.Log.{names_given, operations_given, moment}
use Rattle.system.specs.World.{World, walk, census}
use Rattle.system.specs.Places.{go_or_stop, popped}
use Rattle.system.specs.Step.{new_thread, code_or_none}
use Rattle.system.proofs.Outcomes.{noted, seated, coded, asked, begun, changed_by, ended, entered, moved, held, released, difference, with_done, with_cleared, with_told, with_request, with_opened, with_operated, without_opened, Acts, Stands, Moves, Changes, Ends, Calls, Enters, Misses, Leaves, Exits, Finishes, Clears, Holds, Releases, Starts, Installs, IsCode, Looks, FindsUnlooked, FindsUsed, Retires, Asks, Opens, Tells, FindsGone, Operates, Closes}

-- P holds of each event with its answer and the world after it.
pub record Cases (w : World) (P : Event → Answer → World → Type 0) : Type 1 where
  pub refuses : (e : Event) (r : Refusal) → P e (answer.Refused r) w
  pub begins : (p : ℕ) (t : Thread) → Acts w p t act.Begin → P (event.At p act.Begin) answer.Done (seated w p (Some (begun t)) (event.At p act.Begin) answer.Done)
  pub changes : (p : ℕ) (t : Thread) (code : CodeId) → Changes w p t code
      → P (event.At p act.Change) (difference t code) (seated w p (Some (changed_by t code)) (event.At p act.Change) (difference t code))
  pub rests : (p : ℕ) (t : Thread) → Ends w p t → P (event.At p act.Change) answer.NoChange (seated w p (Some t) (event.At p act.Change) answer.NoChange)
  pub ends : (p : ℕ) (t : Thread) → Ends w p t → P (event.At p act.End) answer.Done (seated w p (Some (ended t)) (event.At p act.End) answer.Done)
  pub moves : (p : ℕ) (t : Thread) (a : Act) (state : State) (given : Answer) → Moves w p t a state given
      → P (event.At p a) given (seated w p (Some (moved t state)) (event.At p a) given)
  pub interprets : (p : ℕ) (t : Thread) (method : ℕ) → Calls w p t method None
      → P (event.At p (act.Enter method None)) answer.Entered (seated w p (Some (entered t method None)) (event.At p (act.Enter method None)) answer.Entered)
  pub enters : (p : ℕ) (t : Thread) (method serial : ℕ) (code : Code) → Enters w p t method serial code
      → P (event.At p (act.Enter method (Some serial))) answer.Entered (seated w p (Some (entered t method (Some (id_of code)))) (event.At p (act.Enter method (Some serial))) answer.Entered)
  pub misses : (p : ℕ) (t : Thread) (method serial : ℕ) (code : Code) → Misses w p t method serial code
      → P (event.At p (act.Enter method (Some serial))) answer.WrongMethod (seated w p (Some t) (event.At p (act.Enter method (Some serial))) answer.WrongMethod)
  pub leaves : (p : ℕ) (t : Thread) (state : State) → Leaves w p t state
      → P (event.At p act.Leave) (go_or_stop (poll_of w.requests t.name)) (seated w p (Some (moved (popped t) state)) (event.At p act.Leave) (go_or_stop (poll_of w.requests t.name)))
  pub exits : (p : ℕ) (t : Thread) → Exits w p t → P (event.At p act.Exit) (answer.Exited t.name) (seated w p None (event.At p act.Exit) (answer.Exited t.name))
  pub finishes : (p : ℕ) (t : Thread) (opened : Opened) → Finishes w p t opened
      → P (event.At p act.Finish) (answer.Reply (reply_to opened.request t.stack)) (asked w (with_done w.requests opened t.name) (event.At p act.Finish) (answer.Reply (reply_to opened.request t.stack)))
  pub clears : (p : ℕ) (t : Thread) (opened : Opened) → Clears w p t opened
      → P (event.At p act.Clear) answer.Done (asked w (with_cleared w.requests opened t.name) (event.At p act.Clear) answer.Done)
  pub holds : (p : ℕ) (t : Thread) (opened : Opened) → Holds w p t opened
      → P (event.At p act.Hold) answer.Done (seated w p (Some (held t)) (event.At p act.Hold) answer.Done)
  pub releases : (p : ℕ) (t : Thread) → Releases w p t → P (event.At p act.Release) answer.Done (seated w p (Some (released t)) (event.At p act.Release) answer.Done)
  pub shows : (p : ℕ) (t : Thread) → Stands w p t → P (event.At p act.Stack) (answer.Frames t.stack) (seated w p (Some t) (event.At p act.Stack) (answer.Frames t.stack))
  pub starts : (p : ℕ) → Starts w p
      → P event.Start (answer.Thread (names_given w.log + 1) p) (seated w p (Some (new_thread (names_given w.log + 1))) event.Start (answer.Thread (names_given w.log + 1) p))
  pub installs : (method slot : ℕ) → Installs w method slot
      → P (event.Install method) (answer.Code (next_serial w.codes)) (coded w (with_code w.codes method slot) (event.Install method) (answer.Code (next_serial w.codes)))
  pub invalidates : (serial : ℕ) (code : Code) → IsCode w serial code InUse
      → P (event.Invalidate serial) answer.Done (coded w (with_state w.codes serial NotEntrant) (event.Invalidate serial) answer.Done)
  pub goes_round : moment w.log < last_number → P event.Round answer.Done (noted w event.Round answer.Done)
  pub looks_clear : (serial p : ℕ) (code : Code) → Looks w serial p code true → P (event.Look serial p) answer.Clear (noted w (event.Look serial p) answer.Clear)
  pub looks_late : (serial p : ℕ) (code : Code) → Looks w serial p code false → P (event.Look serial p) answer.Late (noted w (event.Look serial p) answer.Late)
  pub finds_unlooked : (serial : ℕ) (code : Code) (p : ℕ) → FindsUnlooked w serial code p
      → P (event.Weigh serial) (answer.NotLooked p) (noted w (event.Weigh serial) (answer.NotLooked p))
  pub finds_used : (serial : ℕ) (code : Code) → FindsUsed w serial code
      → P (event.Weigh serial) (answer.Used (walk w (id_of code))) (noted w (event.Weigh serial) (answer.Used (walk w (id_of code))))
  pub retires : (serial : ℕ) (code : Code) → Retires w serial code
      → P (event.Weigh serial) answer.Retired (coded w (with_state w.codes serial Zombie) (event.Weigh serial) answer.Retired)
  pub frees : (serial : ℕ) (code : Code) → IsCode w serial code Zombie
      → P (event.Free serial) answer.Done (coded w (with_state w.codes serial Freed) (event.Free serial) answer.Done)
  pub asks : (request : Request) → Asks w request
      → P (event.Ask request) (answer.Asked (operations_given w.log + 1)) (asked w (with_request w request) (event.Ask request) (answer.Asked (operations_given w.log + 1)))
  pub opens : (oldest : Waiting) (others : List Waiting) → Opens w oldest others
      → P event.Open (answer.Opened oldest.number (kind_of oldest.request)) (asked w (with_opened w oldest others) event.Open (answer.Opened oldest.number (kind_of oldest.request)))
  pub tells : (name : ℕ) (opened : Opened) → Tells w name opened
      → P (event.Tell name) answer.Told (asked w (with_told w.requests opened name) (event.Tell name) answer.Told)
  pub finds_gone : (name : ℕ) → FindsGone w name
      → P (event.Tell name) answer.Gone (noted w (event.Tell name) answer.Gone)
  pub operates : (opened : Opened) (others : List Opened) → Operates w opened others
      → P event.Operate (answer.Census (census w)) (asked w (with_operated w opened) event.Operate (answer.Census (census w)))
  pub closes : (number : Option ℕ) (opened : Opened) → Closes w opened
      → P (event.Close number) (answer.Closed opened.number) (asked w (without_opened w opened) (event.Close number) (answer.Closed opened.number))
  pub counts : (serial : ℕ) (code : Code) → unfreed w.codes serial ≡ Some code
      → P (event.Count serial) (answer.Count (walk w (id_of code))) (noted w (event.Count serial) (answer.Count (walk w (id_of code))))
  pub says_state : (serial : ℕ) (code : Code) → code_of w.codes serial ≡ Some code
      → P (event.CodeState serial) (answer.State code.state) (noted w (event.CodeState serial) (answer.State code.state))
  pub resolves : (method : ℕ) → method < w.methods
      → P (event.Resolve method) (code_or_none (in_use_for w.codes method)) (noted w (event.Resolve method) (code_or_none (in_use_for w.codes method)))
