use Rattle.std.proofs.Common.{◌≡◌, ◌++◌, length}
use Rattle.desk.specs.Machine.{names_of}
use Rattle.desk.proofs.lists.names_of.Given as goal

abbrev pub invariant-loop-one : goal.invariant-loop-one
invariant-loop-one l = l.names.items ++ names_of l.rest ≡ names_of l.fn.live

abbrev pub decreases-loop-one : goal.decreases-loop-one
decreases-loop-one l = length l.rest
