-- The jobs that a thread ran on itself are its own.
use Rattle.std.proofs.Common.{◌≡◌, ℕ, Bool, true, false, List, [], ◌∷◌, refl}
use Rattle.std.specs.Prelude.{◌&&◌, ◌==◌, if◌then◌else◌}
use Rattle.call_log.specs.declared.lists.Job.{Job}
use Rattle.recorder.specs.declared.ran.RanJob.{RanJob}
use Rattle.recorder.specs.declared.ran.Runner.TheVariants.{Thread}
use Rattle.recorder.specs.Ran.{taken}
use Rattle.recorder.specs.Streams.{are_of}

-- One job more, where it is the thread's own.
step : (name : ℕ) (job : Job) (own : Bool) (same : Bool) (jobs : List Job) → (job.name == name) ≡ same → are_of name jobs ≡ true → are_of name (if own && same then job ∷ jobs else jobs) ≡ true
step name job true true jobs e h = cc
step name job true false jobs e h = h
step name job false same jobs e h = h

pub taken_are_of : (name : ℕ) (jobs : List RanJob) → are_of name (taken (Thread name) jobs) ≡ true
taken_are_of name [] = refl
taken_are_of name (ran ∷ jobs) = step name ran.job ran.is_own (ran.job.name == name) (taken (Thread name) jobs) refl (taken_are_of name jobs)
