-- The trace of a script: the marks of a run from method 0 on, and how it ends.
use Rattle.std.specs.Prelude.{ℕ, zero, suc, List, [], ◌∷◌, unwrap_or, slice_get}
use Rattle.script.specs.declared.items.Action.{Action}
use Rattle.script.specs.declared.items.Action.TheVariants as does
use Rattle.script.specs.Body.{Body, finish, act, loop}
use Rattle.interp.specs.declared.mark.Mark.{Mark}
use Rattle.interp.specs.declared.mark.Mark.TheVariants as mark

-- the end of a trace, or a mark and what follows it
pub data Trace : Type 0 where
  finished : Trace
  overflowed : Trace
  made : Mark → Trace → Trace

-- one after the other; nothing follows an overflow
abbrev pub followed : Trace → Trace → Trace
followed finished u = u
followed overflowed u = overflowed
followed (made m t) u = made m (followed t u)

-- so many times
unfoldable pub times : ℕ → Trace → Trace
times zero t = finished
times (suc n) t = followed t (times n t)

-- where `call` has the trace of each method that is called
abbrev pub action_trace : (ℕ → Trace) → Action → Trace
action_trace call does.Native = made mark.Native finished
action_trace call does.Vm = made mark.Vm finished
action_trace call does.Block = made mark.Block finished
action_trace call does.Tick = made mark.Tick finished
action_trace call (does.Call m) = call m

-- Each turn of a loop is its body and then one edge.
abbrev pub body_trace : (ℕ → Trace) → Body → Trace
body_trace call finish = finished
body_trace call (act a rest) = followed (action_trace call a) (body_trace call rest)
body_trace call (loop n b rest) = followed (times n (followed (body_trace call b) (made mark.Edge finished))) (body_trace call rest)

abbrev pub body_of : List Body → ℕ → Body
body_of bs m = unwrap_or (slice_get bs m) finish

-- the trace of a call of a method, if so many more frames fit: In, its body, Out
unfoldable pub method_trace : ℕ → List Body → ℕ → Trace
method_trace zero bs m = overflowed
method_trace (suc left) bs m = made (mark.In m) (followed (body_trace (method_trace left bs) (body_of bs m)) (made (mark.Out m) finished))

-- a run starts with method 0, and at most 256 frames are active
abbrev pub trace : List Body → Trace
trace bs = method_trace 256 bs 0

-- marks, and then a trace
abbrev pub after : List Mark → Trace → Trace
after [] t = t
after (m ∷ ms) t = made m (after ms t)
