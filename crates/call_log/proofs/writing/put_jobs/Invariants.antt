use Rattle.std.proofs.Common.{◌≡◌, ◌++◌, drop}
use Rattle.std.specs.Prelude.{codes}
use Rattle.std.specs.List.{flat_map}
use Rattle.call_log.specs.Spelled.{job_text}
use Rattle.call_log.proofs.writing.put_jobs.Given as goal

abbrev pub invariant-loop-job : goal.invariant-loop-job
invariant-loop-job l = l.text.items ++ flat_map job_text (drop l.job-index l.jobs) ≡ l.fn.text.items ++ (codes " ;" ++ flat_map job_text l.jobs)
