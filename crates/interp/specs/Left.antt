-- What a runner still has to make.
use Rattle.std.specs.Prelude.{◌≡◌, ℕ, suc, ◌+◌, ◌≤◌, ◌⊎◌, List, [], ◌∷◌, length, map, slice_index}
use Rattle.script.specs.Body.{Body, finish, act, loop}
use Rattle.script.specs.Checked.{AreChecked}
use Rattle.script.specs.Layout.{routine}
use Rattle.interp.specs.declared.mark.Mark.TheVariants as mark
use Rattle.interp.specs.declared.frame.Frame.{Frame}
use Rattle.interp.specs.declared.frame.Phase.{Phase}
use Rattle.interp.specs.declared.frame.Phase.TheVariants as phase
use Rattle.interp.specs.declared.runner.Runner.{Runner}
use Rattle.interp.specs.Moves.{fresh}
use Rattle.interp.specs.Trace.{Trace, finished, made, followed, times, action_trace, body_trace, body_of, method_trace, trace}

-- How many steps a body is.
abbrev pub size : Body → ℕ
size finish = 0
size (act a rest) = suc (size rest)
size (loop n b rest) = suc (size b + size rest)

-- No loop of that level or deeper has ended a turn.
abbrev pub IsQuiet : ℕ → List ℕ → Type 0
IsQuiet level turns = (k : ℕ) → level ≤ k → slice_index turns k ≡ 0

-- `At call level body at turns t`: `t` is left of a body inside `level` loops, at its step `at`, when these turns of each loop have
-- ended. At an act, `t` is the act, and then the rest of the body. Inside a loop, `t` is the rest of the turn, its edge, the
-- remaining turns, and what follows the loop. `call` says what a call of each method makes.
abbrev pub At : (ℕ → Trace) → ℕ → Body → ℕ → List ℕ → Trace → Type 0
At call level finish at turns t = (at ≡ 0) × IsQuiet level turns × (t ≡ finished)
At call level (act a rest) at turns t =
    ((at ≡ 0) × IsQuiet level turns × (t ≡ followed (action_trace call a) (body_trace call rest)))
    ⊎ ((p : ℕ) × (at ≡ suc p) × At call level rest p turns t)
At call level (loop n b rest) at turns t =
    ((u : Trace) × (to_come : ℕ) × At call (level + 1) b at turns u × (slice_index turns level + suc to_come ≡ n)
    × (t ≡ followed u (made mark.Edge (followed (times to_come (followed (body_trace call b) (made mark.Edge finished))) (body_trace call rest)))))
    ⊎ ((p : ℕ) × (at ≡ suc (size b + p)) × At call level rest p turns t)

-- `FrameAt bs left f t`: `t` is left of the body of the frame `f`, on top of which `left` more frames fit.
abbrev pub FrameAt : List Body → ℕ → Frame → Trace → Type 0
FrameAt bs left f t = (length f.turns ≡ 8) × At (method_trace left bs) 0 (body_of bs f.method) f.at f.turns t

-- `Stand bs room frames later left then`: these frames are active, the first called first, where `room` frames fit and `later` was to
-- follow. `left` more frames fit on top of them, and `then` is to follow: the rest of each frame and its end, the last called first,
-- and `later` after them all.
abbrev pub Stand : List Body → ℕ → List Frame → Trace → ℕ → Trace → Type 0
Stand bs room [] later left then = (left ≡ room) × (then ≡ later)
Stand bs room (f ∷ fs) later left then =
    (above : ℕ) × (u : Trace) × (room ≡ suc above) × FrameAt bs above f u × Stand bs above fs (followed u (made (mark.Out f.method) later)) left then

-- In this phase, with this frame on top of its callers, `t` is left of the whole trace.
abbrev pub LeftIn : List Body → Phase → Frame → List Frame → Trace → Type 0
LeftIn bs phase.Fresh f callers t = (callers ≡ []) × (f ≡ fresh 0) × (t ≡ trace bs)
LeftIn bs phase.Running f callers t =
    (left : ℕ) × (then u : Trace) × Stand bs 256 callers finished (suc left) then × FrameAt bs left f u × (t ≡ followed u (made (mark.Out f.method) then))
LeftIn bs phase.Finished f callers t = t ≡ finished

-- The runner has the code of a checked script, and this is left of its trace.
abbrev pub Left : Runner → Trace → Type 0
Left r t = (bs : List Body) × (r.code.now ≡ map routine bs) × AreChecked bs × LeftIn bs r.phase r.frame r.callers.items t

-- How many marks the runner made.
abbrev pub made_by : Runner → ℕ
made_by r = r.made
