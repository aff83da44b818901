use Rattle.std.proofs.Common.{◌≡◌, drop}
use Rattle.recorder.specs.Streams.{jobs_rise}
use Rattle.recorder.proofs.stream.jobs_rise.Given as goal

abbrev pub invariant-loop-job : goal.invariant-loop-job
invariant-loop-job l = jobs_rise l.last (drop l.job-index l.jobs) l.end ≡ jobs_rise l.fn.above l.jobs l.end
