-- The jobs that ran in calls which haven't returned.
use Rattle.std.specs.Prelude.{Bool, not, ◌&&◌, ◌==◌, List, [], ◌∷◌, if◌then◌else◌}
use Rattle.call_log.specs.declared.lists.Job.{Job}
use Rattle.recorder.specs.declared.ran.RanJob.{RanJob}
use Rattle.recorder.specs.declared.ran.Runner.{Runner}
use Rattle.recorder.specs.declared.ran.Runner.TheVariants.{Thread, Coordinator}

pub record RanSeen : Type 0 where
  pub jobs : List RanJob
  pub lost : Bool

abbrev pub is_of : Runner → RanJob → Bool
is_of (Thread name) ran = ran.is_own && (ran.job.name == name)
is_of Coordinator ran = not ran.is_own

-- The jobs that the runner ran.
abbrev pub taken : Runner → List RanJob → List Job
taken runner [] = []
taken runner (ran ∷ jobs) = if is_of runner ran then ran.job ∷ taken runner jobs else taken runner jobs

-- The jobs that another runner ran.
abbrev pub left : Runner → List RanJob → List RanJob
left runner [] = []
left runner (ran ∷ jobs) = if is_of runner ran then left runner jobs else ran ∷ left runner jobs
