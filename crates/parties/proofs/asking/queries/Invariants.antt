use Rattle.std.proofs.Common.{◌≡◌, ◌++◌, List, true, length}
use Rattle.operations.specs.declared.job.queries.Query.{Query}
use Rattle.desk.specs.JobsFit.{are_for}
use Rattle.parties.proofs.asking.queries.Given as goal

abbrev pub invariant-loop-rest : goal.invariant-loop-rest
invariant-loop-rest l =
    (more : List Query) → are_for (λ (j : Query). j.target) (λ (j : Query). j.ask) l.rest l.ask more ≡ true
    → are_for (λ (j : Query). j.target) (λ (j : Query). j.ask) l.fn.names l.ask (l.jobs.items ++ more) ≡ true

abbrev pub decreases-loop-rest : goal.decreases-loop-rest
decreases-loop-rest l = length l.rest
