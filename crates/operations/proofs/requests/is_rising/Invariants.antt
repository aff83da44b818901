use Rattle.std.proofs.Common.{◌≡◌, length}
use Rattle.operations.specs.Names.{is_rising}
use Rattle.operations.proofs.requests.is_rising.Given as goal

abbrev pub invariant-loop-name : goal.invariant-loop-name
invariant-loop-name l = is_rising l.fn.names ≡ is_rising l.rest

abbrev pub decreases-loop-name : goal.decreases-loop-name
decreases-loop-name l = length l.rest
