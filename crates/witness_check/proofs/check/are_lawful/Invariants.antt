use Rattle.std.proofs.Common.{◌≡◌, length}
use Rattle.witness_check.specs.Walk.{walked, walk, fresh_walk}
use Rattle.witness_check.proofs.check.are_lawful.Given as goal

abbrev pub decreases-loop-owners : goal.decreases-loop-owners
decreases-loop-owners l = length l.owners

abbrev pub invariant-loop-owners : goal.invariant-loop-owners
invariant-loop-owners l = walk l.recorded l.calls (walked l.walk) l.owners l.events l.answers ≡ walk l.recorded l.calls (fresh_walk l.calls) l.initial.owners l.initial.events l.initial.answers
