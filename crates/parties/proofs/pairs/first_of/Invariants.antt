use Rattle.std.proofs.Common.{◌≡◌, length}
use Rattle.parties.specs.Pairs.{first_of}
use Rattle.parties.proofs.pairs.first_of.Given as goal

abbrev pub invariant-loop-rest : goal.invariant-loop-rest
invariant-loop-rest g l = first_of l.key l.rest ≡ first_of l.key l.initial.rest

abbrev pub decreases-loop-rest : goal.decreases-loop-rest
decreases-loop-rest g l = length l.rest
