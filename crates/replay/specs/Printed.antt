-- The text of an answer.
use Rattle.std.specs.Prelude.{ℕ, ℤ, pos, negsuc, suc, codes, decimal, List, [], ◌∷◌, ◌++◌, Option, Some, None, Bool, true, false}
use Rattle.std.specs.List.{flat_map}
use Rattle.frames.specs.declared.CodeId.{CodeId}
use Rattle.frames.specs.declared.Frame.{Frame}
use Rattle.thread_state.specs.StateText.{state_text}
use Rattle.method_table.specs.declared.CodeState.{CodeState}
use Rattle.method_table.specs.declared.CodeState.TheVariants.{InUse, NotEntrant, Zombie, Freed}
use Rattle.operations.specs.declared.Kind.{Kind}
use Rattle.operations.specs.declared.Kind.TheVariants.{Handshake, Census}
use Rattle.system.specs.declared.answers.Refusal.{Refusal}
use Rattle.system.specs.declared.answers.Refusal.TheVariants as refusal
use Rattle.system.specs.declared.answers.CodeCount.{CodeCount}
use Rattle.system.specs.declared.answers.Answer.{Answer}
use Rattle.system.specs.declared.answers.Answer.TheVariants as answer
use Rattle.replay.specs.declared.engine.Reply.{Reply}
use Rattle.replay.specs.declared.engine.Reply.TheVariants as reply
use Rattle.replay.specs.declared.print.Ending.{Ending}
use Rattle.replay.specs.declared.print.Ending.TheVariants as ending

-- A refusal by its name; Illegal also names the state.
abbrev pub refusal_text : Refusal → List ℕ
refusal_text refusal.NoSuchPlace = codes "NoSuchPlace"
refusal_text (refusal.Illegal state) = codes "Illegal " ++ state_text state
refusal_text refusal.Publishing = codes "Publishing"
refusal_text refusal.NotBegun = codes "NotBegun"
refusal_text refusal.ChangesLeft = codes "ChangesLeft"
refusal_text refusal.Held = codes "Held"
refusal_text refusal.NoSuchMethod = codes "NoSuchMethod"
refusal_text refusal.Unknown = codes "Unknown"
refusal_text refusal.Unpublished = codes "Unpublished"
refusal_text refusal.DepthFull = codes "DepthFull"
refusal_text refusal.NotOf = codes "NotOf"
refusal_text refusal.EmptyStack = codes "EmptyStack"
refusal_text refusal.StackNotEmpty = codes "StackNotEmpty"
refusal_text refusal.OperationPending = codes "OperationPending"
refusal_text refusal.NotDone = codes "NotDone"
refusal_text refusal.NothingOpen = codes "NothingOpen"
refusal_text refusal.NotTold = codes "NotTold"
refusal_text refusal.AlreadyDone = codes "AlreadyDone"
refusal_text refusal.NotSafe = codes "NotSafe"
refusal_text refusal.NotHeld = codes "NotHeld"
refusal_text refusal.SafepointOpen = codes "SafepointOpen"
refusal_text refusal.PlacesFull = codes "PlacesFull"
refusal_text refusal.Spent = codes "Spent"
refusal_text refusal.TableFull = codes "TableFull"
refusal_text refusal.SerialsSpent = codes "SerialsSpent"
refusal_text refusal.NotInUse = codes "NotInUse"
refusal_text refusal.NotNotEntrant = codes "NotNotEntrant"
refusal_text refusal.NotZombie = codes "NotZombie"
refusal_text refusal.QueueFull = codes "QueueFull"
refusal_text refusal.NoTargets = codes "NoTargets"
refusal_text refusal.BadTargets = codes "BadTargets"
refusal_text refusal.AlreadyOpen = codes "AlreadyOpen"
refusal_text refusal.QueueEmpty = codes "QueueEmpty"
refusal_text refusal.AlreadyTold = codes "AlreadyTold"
refusal_text refusal.NotAllHeld = codes "NotAllHeld"

-- A number with its sign.
abbrev pub signed_text : ℤ → List ℕ
signed_text (pos n) = codes "+" ++ decimal n
signed_text (negsuc n) = codes "-" ++ decimal (suc n)

-- The serial of a frame's code, or `i` where it is interpreted.
abbrev pub code_text : Option CodeId → List ℕ
code_text None = codes "i"
code_text (Some code) = decimal code.serial

abbrev pub frame_text : Frame → List ℕ
frame_text frame = codes " " ++ decimal frame.method ++ codes ":" ++ code_text frame.code

abbrev pub counted_text : CodeCount → List ℕ
counted_text counted = codes " " ++ decimal counted.serial ++ codes ":" ++ decimal counted.count

abbrev pub kind_text : Kind → List ℕ
kind_text Handshake = codes " handshake"
kind_text Census = codes " census"

abbrev pub code_state_text : CodeState → List ℕ
code_state_text InUse = codes "in use"
code_state_text NotEntrant = codes "not entrant"
code_state_text Zombie = codes "zombie"
code_state_text Freed = codes "freed"

abbrev pub answer_text : Answer → List ℕ
answer_text answer.Done = codes "ok"
answer_text (answer.Thread name place) = codes "thread " ++ decimal name ++ codes " place " ++ decimal place
answer_text (answer.Exited name) = codes "exited " ++ decimal name
answer_text (answer.Changed serial by) = codes "change " ++ decimal serial ++ codes " " ++ signed_text by
answer_text answer.NoChange = codes "change none"
answer_text answer.Go = codes "go"
answer_text (answer.Stop operation) = codes "stop " ++ decimal operation
answer_text answer.Entered = codes "entered"
answer_text answer.WrongMethod = codes "wrong method"
answer_text (answer.Reply n) = codes "reply " ++ decimal n
answer_text (answer.Frames frames) = codes "stack" ++ flat_map frame_text frames
answer_text (answer.Code serial) = codes "code " ++ decimal serial
answer_text answer.NoCode = codes "none"
answer_text answer.Clear = codes "clear"
answer_text answer.Late = codes "late"
answer_text (answer.NotLooked place) = codes "not looked " ++ decimal place
answer_text (answer.Used n) = codes "used " ++ decimal n
answer_text answer.Retired = codes "retired"
answer_text (answer.Asked operation) = codes "asked " ++ decimal operation
answer_text (answer.Opened operation kind) = codes "open " ++ decimal operation ++ kind_text kind
answer_text (answer.Closed operation) = codes "closed " ++ decimal operation
answer_text answer.Told = codes "told"
answer_text answer.Gone = codes "gone"
answer_text (answer.Census counts) = codes "census" ++ flat_map counted_text counts
answer_text (answer.Count n) = codes "count " ++ decimal n
answer_text (answer.State state) = code_state_text state
answer_text (answer.Refused why) = codes "refused " ++ refusal_text why

abbrev pub reply_text : Reply → List ℕ
reply_text reply.BadLine = codes "bad line"
reply_text reply.BadSize = codes "refused BadSize"
reply_text (reply.Answered said) = answer_text said

-- The part of a line that is missing after the words that were put.
abbrev pub ending_text : Ending → List ℕ
ending_text ending.Whole = []
ending_text (ending.Number n) = decimal n ++ 10 ∷ []
ending_text ending.List = []

abbrev pub is_list : Ending → Bool
is_list ending.List = true
is_list other = false
