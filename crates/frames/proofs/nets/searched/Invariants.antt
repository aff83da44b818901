use Rattle.std.proofs.Common.{◌≡◌, drop}
use Rattle.frames.specs.Stack.{times}
use Rattle.frames.specs.Nets.{codes_in}
use Rattle.frames.proofs.nets.searched.Given as goal

abbrev pub invariant-loop-place : goal.invariant-loop-place
invariant-loop-place l = times l.code (codes_in l.nets) ≡ times l.code (codes_in (drop l.place l.nets))
