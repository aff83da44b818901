use Rattle.std.proofs.Common.{◌≡◌, length}
use Rattle.parties.specs.Acted.{awaited_after}
use Rattle.parties.proofs.awaited.awaited_after.Given as goal

abbrev pub invariant-loop-one : goal.invariant-loop-one
invariant-loop-one g l = awaited_after l.keeps.held l.name l.rest ≡ awaited_after l.keeps.held l.name l.fn.due

abbrev pub decreases-loop-one : goal.decreases-loop-one
decreases-loop-one g l = length l.rest
