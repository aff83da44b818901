-- All faults of a script that was read, in the order of the document.
use Rattle.std.specs.Prelude.{ℕ, ◌+◌, ◌&&◌, nat_lt, nat_le, List, [], ◌∷◌, ◌++◌, length, if◌then◌else◌}
use Rattle.script.specs.declared.items.Action.{Action}
use Rattle.script.specs.declared.items.Action.TheVariants.{Native, Vm, Block, Tick, Call}
use Rattle.script.specs.declared.fault.Fault.TheVariants.{BadCall, BadLoop, TooDeep}
use Rattle.script.specs.declared.fault.ScriptFault.{ScriptFault}
use Rattle.script.specs.declared.fault.ScriptFault.TheVariants.{Refused}
use Rattle.script.specs.Body.{Body, finish, act, loop}

-- a call is of a method that exists
abbrev pub action_faults : ℕ → List ℕ → Action → List ScriptFault
action_faults methods place Native = []
action_faults methods place Vm = []
action_faults methods place Block = []
action_faults methods place Tick = []
action_faults methods place (Call m) = if nat_lt m methods then [] else Refused BadCall place ∷ []

-- a loop has 1 to 1,000,000 turns, and is nested in fewer than 8 others
abbrev pub loop_faults : ℕ → List ℕ → ℕ → List ScriptFault
loop_faults level place turns =
    if nat_lt 0 turns && nat_le turns 1000000 then (if nat_lt level 8 then [] else Refused TooDeep place ∷ [])
    else Refused BadLoop place ∷ []

-- the faults of a body at a place inside so many loops, from item k on
abbrev pub body_faults : ℕ → ℕ → List ℕ → ℕ → Body → List ScriptFault
body_faults methods level place k finish = []
body_faults methods level place k (act a rest) = action_faults methods (place ++ k ∷ []) a ++ body_faults methods level place (k + 1) rest
body_faults methods level place k (loop n b rest) =
    loop_faults level (place ++ k ∷ []) n ++ body_faults methods (level + 1) (place ++ k ∷ []) 0 b
    ++ body_faults methods level place (k + 1) rest

-- the faults of the methods from number m on, in a script of so many methods
abbrev pub bodies_faults : ℕ → ℕ → List Body → List ScriptFault
bodies_faults methods m [] = []
bodies_faults methods m (b ∷ bs) = body_faults methods 0 (m ∷ []) 0 b ++ bodies_faults methods (m + 1) bs

abbrev pub script_faults : List Body → List ScriptFault
script_faults bs = bodies_faults (length bs) 0 bs
