-- Codes, frames and stacks. A stack is a list of frames, the top last.
use Rattle.std.specs.Prelude.{ℕ, Bool, false, ◌||◌, ◌&&◌, ◌==◌, nat_lt, ◌-◌, length, slice_get, List, [], ◌∷◌, count_by, Option, Some, None}
use Rattle.std.specs.List.{list_any}
use Rattle.frames.specs.declared.CodeId.{CodeId}
use Rattle.frames.specs.declared.Frame.{Frame}

-- the same slot and serial
abbrev pub same_code : CodeId → CodeId → Bool
same_code a b = (a.serial == b.serial) && (a.slot == b.slot)

-- codes go by serial, and then by slot
abbrev pub code_lt : CodeId → CodeId → Bool
code_lt a b = nat_lt a.serial b.serial || ((a.serial == b.serial) && nat_lt a.slot b.slot)

-- the option is the code
abbrev pub is_code : CodeId → Option CodeId → Bool
is_code code None = false
is_code code (Some other) = same_code other code

-- the frame is an activation of the code
abbrev pub is_of : CodeId → Frame → Bool
is_of code frame = is_code code frame.code

-- act: how many frames of the stack are activations of the code. HotSpot purges code that has no
-- activation left on any stack (nmethod states).
abbrev pub act : CodeId → List Frame → ℕ
act code stack = count_by (is_of code) stack

-- the codes, with the optional one before them
abbrev pub code_or : Option CodeId → List CodeId → List CodeId
code_or None codes = codes
code_or (Some code) codes = code ∷ codes

-- the codes of the frames that have one, with repetitions
abbrev pub codes_of : List Frame → List CodeId
codes_of [] = []
codes_of (frame ∷ frames) = code_or frame.code (codes_of frames)

-- how often the code is in a bag
abbrev pub times : CodeId → List CodeId → ℕ
times code bag = count_by (λ other. same_code other code) bag

-- the code is one of these
abbrev pub is_among : CodeId → List CodeId → Bool
is_among code codes = list_any (λ other. same_code other code) codes

-- the serial, 0 where there is no code
abbrev pub serial_or_zero : Option CodeId → ℕ
serial_or_zero None = 0
serial_or_zero (Some code) = code.serial

-- the serial of the frame's code, 0 where there is no frame or it is interpreted
abbrev pub frame_serial : Option Frame → ℕ
frame_serial None = 0
frame_serial (Some frame) = serial_or_zero frame.code

-- the serial of the top frame's code, 0 where there is none
abbrev pub top_serial_of : List Frame → ℕ
top_serial_of stack = frame_serial (slice_get stack (length stack - 1))

-- the option is a code of the serial
abbrev pub serial_is : ℕ → Option CodeId → Bool
serial_is serial None = false
serial_is serial (Some code) = code.serial == serial

-- the frame's code has the serial
abbrev pub has_serial : ℕ → Frame → Bool
has_serial serial frame = serial_is serial frame.code

-- how many frames have a code of the serial
abbrev pub serial_count : ℕ → List Frame → ℕ
serial_count serial stack = count_by (has_serial serial) stack
