-- What a call returns to C, and what becomes of its model. A place holds a model or none.
use Rattle.std.specs.Prelude.{◌≡◌, ◌≤◌, ℕ, ℤ, pos, negsuc, true, false, List, Option, Some, None, Result, Ok, Err, length, take, drop}
use Rattle.system.specs.World.{start_world}
use Rattle.system.specs.Stands.{are_sizes}
use Rattle.system.specs.declared.machine.NewFault.{NewFault}
use Rattle.system.specs.declared.machine.NewFault.TheVariants as fault
use Rattle.replay.specs.Text.{IsAt}
use Rattle.model.specs.Stepped.{Stepped, Answered, Kept, Gives, NeedsRoom, WhyWaits, WhyUnknown, taken}
use Rattle.model.specs.declared.line_model.LineFault.{LineFault}
use Rattle.model.specs.declared.line_model.LineFault.TheVariants as line
use Rattle.model.specs.declared.line_model.AnswerFault.{AnswerFault}
use Rattle.model.specs.declared.line_model.AnswerFault.TheVariants as answer

-- The numbers of the faults: minus 1 to minus 8.
abbrev pub no_memory : ℤ
no_memory = negsuc 0

abbrev pub no_model : ℤ
no_model = negsuc 6

abbrev pub has_model : ℤ
has_model = negsuc 7

abbrev pub new_fault_code : NewFault → ℤ
new_fault_code fault.BadSize = negsuc 5
new_fault_code fault.NoMemory = no_memory

abbrev pub fault_code : LineFault → ℤ
fault_code line.NoMemory = no_memory
fault_code line.AnswerWaits = negsuc 1
fault_code (line.TooLong n) = negsuc 2
fault_code line.Unwritten = negsuc 3

abbrev pub answer_fault_code : AnswerFault → ℤ
answer_fault_code answer.NothingWaits = negsuc 4
answer_fault_code (answer.TooLong n) = negsuc 2
answer_fault_code answer.Unwritten = negsuc 3

-- A number or a fault's number.
abbrev pub code_of : {F : Type 0} → (F → ℤ) → Result ℕ F → ℤ
code_of code (Ok n) = pos n
code_of code (Err fault) = code fault

-- A model of these sizes, of which no line was played.
pub record IsFresh (places slots methods : ℕ) (model : Stepped) : Type 0 where
  pub at : IsAt model.system (Some (start_world places slots methods))
  pub none_waits : model.waits ≡ None

-- The answer to a line, and the model and the room after it.
abbrev pub LineDone : Result ℕ LineFault → List ℕ → Stepped → List ℕ → Stepped → List ℕ → Type 0
LineDone (Ok n) bytes old room new room' = Answered old bytes (take n room') new × (n ≤ length room') × (drop n room' ≡ drop n room)
LineDone (Err fault) bytes old room new room' = Kept fault old bytes (length room) new × (room' ≡ room)

-- The answer that waits.
abbrev pub AnswerDone : Result ℕ AnswerFault → Stepped → List ℕ → Stepped → List ℕ → Type 0
AnswerDone (Ok n) old room new room' = Gives old.waits (take n room') × (n ≤ length room') × (drop n room' ≡ drop n room) × (new ≡ taken old)
AnswerDone (Err fault) old room new room' = WhyWaits fault old.waits (length room) × (new ≡ old) × (room' ≡ room)

-- How long it is.
abbrev pub NeedsDone : Result ℕ AnswerFault → Stepped → Type 0
NeedsDone (Ok n) old = NeedsRoom old.waits n
NeedsDone (Err fault) old = WhyUnknown fault old.waits

-- Why no model is made.
abbrev pub WhyNone : NewFault → ℕ → ℕ → ℕ → Type 0
WhyNone fault.BadSize places slots methods = are_sizes places slots methods ≡ false
WhyNone fault.NoMemory places slots methods = are_sizes places slots methods ≡ true

-- A model is made where there was none; or there is none still.
abbrev pub MadeIn : ℤ → ℕ → ℕ → ℕ → Option Stepped → Type 0
MadeIn code places slots methods (Some new) = (code ≡ pos 0) × (are_sizes places slots methods ≡ true) × IsFresh places slots methods new
MadeIn code places slots methods None = (fault : NewFault) × (code ≡ new_fault_code fault) × WhyNone fault places slots methods

abbrev pub NewTold : ℤ → ℕ → ℕ → ℕ → Option Stepped → Option Stepped → Type 0
NewTold code places slots methods None new = MadeIn code places slots methods new
NewTold code places slots methods (Some old) new = (code ≡ has_model) × (new ≡ Some old)

abbrev pub LineTold : ℤ → List ℕ → Option Stepped → List ℕ → Option Stepped → List ℕ → Type 0
LineTold code bytes None room new room' = (code ≡ no_model) × (new ≡ None) × (room' ≡ room)
LineTold code bytes (Some old) room None room' = ⊥
LineTold code bytes (Some old) room (Some new) room' = (done : Result ℕ LineFault) × (code ≡ code_of fault_code done) × LineDone done bytes old room new room'

abbrev pub AnswerTold : ℤ → Option Stepped → List ℕ → Option Stepped → List ℕ → Type 0
AnswerTold code None room new room' = (code ≡ no_model) × (new ≡ None) × (room' ≡ room)
AnswerTold code (Some old) room None room' = ⊥
AnswerTold code (Some old) room (Some new) room' = (done : Result ℕ AnswerFault) × (code ≡ code_of answer_fault_code done) × AnswerDone done old room new room'

abbrev pub NeedsTold : ℤ → Option Stepped → Option Stepped → Type 0
NeedsTold code None new = (code ≡ no_model) × (new ≡ None)
NeedsTold code (Some old) new = (new ≡ Some old) × (done : Result ℕ AnswerFault) × (code ≡ code_of answer_fault_code done) × NeedsDone done old
