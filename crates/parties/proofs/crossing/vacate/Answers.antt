use Rattle.std.proofs.Common.{rules}
use Rattle.parties.proofs.crossing.vacate.Goals as goal
use Rattle.parties.proofs.crossing.vacate.Goals.{in-Refused-Illegal, in-Refused-StackNotEmpty, in-Told-Go, in-Told-Stop}

pub returns-clause-refused : goal.returns-clause-refused
returns-clause-refused g c = elim c.match-fault.branch [
  | in-Refused-Illegal w ↦ search rules
  | in-Refused-StackNotEmpty w ↦ search rules
  | in-Told-Go w ↦ search rules
  | in-Told-Stop w ↦ search rules
]
