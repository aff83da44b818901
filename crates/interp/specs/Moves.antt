-- What a runner does next, and its state after that.
use Rattle.std.specs.Prelude.{◌≡◌, ◌⊎◌, ℕ, ◌+◌, ◌-◌, ◌<◌, ◌^◌, nat_lt, List, [], ◌∷◌, ◌++◌, length, slice_index, slice_set, slice_get, Option, Some, None, option_and_then, if◌then◌else◌, ⊤}
use Rattle.script.specs.declared.items.Action.{Action}
use Rattle.script.specs.declared.items.Action.TheVariants as does
use Rattle.script.specs.declared.code.Op.{Op}
use Rattle.script.specs.declared.code.Op.TheVariants as op
use Rattle.interp.specs.declared.mark.Mark.TheVariants as mark
use Rattle.interp.specs.declared.frame.Frame.{Frame}
use Rattle.interp.specs.declared.frame.Phase.{Phase}
use Rattle.interp.specs.declared.frame.Phase.TheVariants as phase
use Rattle.interp.specs.declared.frame.Move.{Move}
use Rattle.interp.specs.declared.frame.Move.TheVariants as move
use Rattle.interp.specs.declared.frame.Ahead.{Ahead}
use Rattle.interp.specs.declared.frame.Ahead.TheVariants as ahead

abbrev pub action_ahead : ℕ → Action → Ahead
action_ahead depth does.Native = ahead.Made mark.Native move.Pass
action_ahead depth does.Vm = ahead.Made mark.Vm move.Pass
action_ahead depth does.Block = ahead.Made mark.Block move.Pass
action_ahead depth does.Tick = ahead.Made mark.Tick move.Pass
action_ahead depth (does.Call m) = if nat_lt depth 255 then ahead.Made (mark.In m) (move.Enter m) else ahead.Overflow

-- what a step, or the end of the method, makes below so many callers
abbrev pub op_ahead : ℕ → Frame → Option Op → Ahead
op_ahead depth f None = ahead.Made (mark.Out f.method) move.Leave
op_ahead depth f (Some (op.Action a)) = action_ahead depth a
op_ahead depth f (Some (op.Edge n s l)) = ahead.Made mark.Edge (move.Turn n s l)

abbrev pub op_at : List (List Op) → Frame → Option Op
op_at code f = option_and_then (λ r. slice_get r f.at) (slice_get code f.method)

abbrev pub ahead_of : List (List Op) → Phase → Frame → List Frame → Ahead
ahead_of code phase.Fresh f callers = ahead.Made (mark.In 0) move.Begin
ahead_of code phase.Running f callers = op_ahead (length callers) f (op_at code f)
ahead_of code phase.Finished f callers = ahead.Finished

-- a frame at the beginning of a method
abbrev pub fresh : ℕ → Frame
fresh m = record { method = m; at = 0; turns = 0 ∷ 0 ∷ 0 ∷ 0 ∷ 0 ∷ 0 ∷ 0 ∷ 0 ∷ [] }

abbrev pub passed : Frame → Frame
passed f = record { method = f.method; at = f.at + 1; turns = f.turns }

abbrev pub turned_frame : ℕ → ℕ → ℕ → Frame → Frame
turned_frame n s l f =
    if nat_lt (slice_index f.turns l) (n - 1) then record { method = f.method; at = s; turns = slice_set f.turns l (slice_index f.turns l + 1) }
    else record { method = f.method; at = f.at + 1; turns = slice_set f.turns l 0 }

-- what a move needs of the frame and the callers
abbrev pub MoveFits : Frame → List Frame → Move → Type 0
MoveFits f callers move.Begin = ⊤
MoveFits f callers move.Pass = f.at < 2 ^ 63
MoveFits f callers (move.Enter m) = (f.at < 2 ^ 63) × (length callers < 255)
MoveFits f callers move.Leave = ⊤
MoveFits f callers (move.Turn n s l) = (f.at < 2 ^ 63) × (0 < n) × (l < 8)

abbrev pub Fits : Frame → List Frame → Ahead → Type 0
Fits f callers ahead.Finished = ⊤
Fits f callers ahead.Overflow = ⊤
Fits f callers (ahead.Made m v) = MoveFits f callers v

-- the state of a runner before and after a move
abbrev pub Moved : Move → Phase → Frame → List Frame → Phase → Frame → List Frame → Type 0
Moved move.Begin p f cs q g ds = (q ≡ phase.Running) × (g ≡ f) × (ds ≡ cs)
Moved move.Pass p f cs q g ds = (q ≡ p) × (g ≡ passed f) × (ds ≡ cs)
Moved (move.Enter m) p f cs q g ds = (q ≡ p) × (g ≡ fresh m) × (ds ≡ cs ++ passed f ∷ [])
Moved move.Leave p f cs q g ds = ((cs ≡ []) × (q ≡ phase.Finished)) ⊎ ((q ≡ p) × (cs ≡ ds ++ g ∷ []))
Moved (move.Turn n s l) p f cs q g ds = (q ≡ p) × (g ≡ turned_frame n s l f) × (ds ≡ cs)
