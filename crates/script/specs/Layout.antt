-- A body as flat steps. A loop is the steps of its body and then its edge; entering a loop is no step.
use Rattle.std.specs.Prelude.{ℕ, ◌+◌, ◌<◌, ◌≤◌, List, [], ◌∷◌, ◌++◌, length, ⊤}
use Rattle.script.specs.declared.items.Action.{Action}
use Rattle.script.specs.declared.items.Action.TheVariants.{Native, Vm, Block, Tick, Call}
use Rattle.script.specs.declared.code.Op.{Op}
use Rattle.script.specs.declared.code.Op.TheVariants as op
use Rattle.script.specs.Body.{Body, finish, act, loop}

-- the steps of a body inside so many loops, from a step of the method on
abbrev pub ops : ℕ → ℕ → Body → List Op
ops at level finish = []
ops at level (act a rest) = op.Action a ∷ ops (at + 1) level rest
ops at level (loop n b rest) = ops at (level + 1) b ++ op.Edge n at level ∷ ops (at + length (ops at (level + 1) b) + 1) level rest

-- a method's steps
abbrev pub routine : Body → List Op
routine b = ops 0 0 b

abbrev pub IsActionInRange : ℕ → Action → Type 0
IsActionInRange methods Native = ⊤
IsActionInRange methods Vm = ⊤
IsActionInRange methods Block = ⊤
IsActionInRange methods Tick = ⊤
IsActionInRange methods (Call m) = m < methods

-- a step of a script of so many methods: a call is of one of them; a loop starts at its end or before, has 1 to 1,000,000 turns, and is
-- nested in fewer than 8 others
abbrev pub IsInRange : ℕ → ℕ → Op → Type 0
IsInRange methods at (op.Action a) = IsActionInRange methods a
IsInRange methods at (op.Edge turns start level) = (start ≤ at) × (0 < turns) × (turns ≤ 1000000) × (level < 8)

-- the steps from one on are in range
abbrev pub AreInRange : ℕ → ℕ → List Op → Type 0
AreInRange methods at [] = ⊤
AreInRange methods at (o ∷ os) = IsInRange methods at o × AreInRange methods (at + 1) os

abbrev pub AllInRange : ℕ → List (List Op) → Type 0
AllInRange methods [] = ⊤
AllInRange methods (r ∷ rs) = AreInRange methods 0 r × AllInRange methods rs

-- code that runs without a test
abbrev pub IsRunnable : List (List Op) → Type 0
IsRunnable rs = AllInRange (length rs) rs
