-- The jobs that fit a request, and the jobs left.
use Rattle.std.specs.Prelude.{ℕ, List, [], ◌∷◌, ◌++◌, Bool, true, false, ◌&&◌, ◌==◌, length, map, Option, Some, None, if◌then◌else◌}
use Rattle.operations.specs.Names.{among}
use Rattle.desk.specs.Machine.{Asked, Current, targets_of, open_of, passes}
use Rattle.operations.specs.declared.Ask.{Ask}
use Rattle.operations.specs.declared.Ask.TheVariants.{Depth, CountOf, Top}
use Rattle.operations.specs.declared.Request.{Request}
use Rattle.operations.specs.declared.Request.TheVariants.{Handshake, Census}

abbrev pub same_ask : Ask → Ask → Bool
same_ask Depth Depth = true
same_ask Depth (CountOf s) = false
same_ask Depth Top = false
same_ask Top Depth = false
same_ask Top (CountOf s) = false
same_ask Top Top = true
same_ask (CountOf s) Depth = false
same_ask (CountOf s) (CountOf t) = s == t
same_ask (CountOf s) Top = false

-- the request is a handshake with this ask
abbrev pub asks_it : Ask → Request → Bool
asks_it ask Census = false
asks_it ask (Handshake targets asked) = same_ask asked ask

-- the open request with this number has this ask
abbrev pub is_asked_by : ℕ → Ask → List Current → Bool
is_asked_by n ask cs = passes (λ c. asks_it ask c.request) (open_of n cs)

-- each target has one job with this ask, in the same order
abbrev pub are_for : {J : Type 0} → (J → ℕ) → (J → Ask) → List ℕ → Ask → List J → Bool
are_for whom asks [] ask jobs = length jobs == 0
are_for whom asks (t ∷ ts) ask [] = false
are_for whom asks (t ∷ ts) ask (j ∷ js) = ((whom j == t) && same_ask (asks j) ask) && are_for whom asks ts ask js

-- each target of the request has one job with the request's ask, in the same order; a census has no jobs
abbrev pub jobs_fit : {J : Type 0} → (J → ℕ) → (J → Ask) → Request → List J → Bool
jobs_fit whom asks Census jobs = length jobs == 0
jobs_fit whom asks (Handshake targets ask) jobs = are_for whom asks targets ask jobs

-- the handshake of the jobs' targets, in order, with the ask of the first job; None without jobs
abbrev pub request_of : {J : Type 0} → (J → ℕ) → (J → Ask) → List J → Option Request
request_of whom asks [] = None
request_of whom asks (j ∷ js) = Some (Handshake (map whom (j ∷ js)) (asks j))

-- the names without the first occurrence of this name
abbrev pub without_first : ℕ → List ℕ → List ℕ
without_first name [] = []
without_first name (n ∷ ns) = if n == name then ns else n ∷ without_first name ns

-- an open request's number and the names of its remaining jobs, in the order of its targets
pub record JobsLeft : Type 0 where
  pub number : ℕ
  pub names : List ℕ

-- the names of the remaining jobs of the open request with this number
abbrev pub left_of : ℕ → List JobsLeft → List ℕ
left_of n [] = []
left_of n (j ∷ js) = if j.number == n then j.names else left_of n js

-- the open request with this number still has a job for the name
abbrev pub has_job : ℕ → ℕ → List JobsLeft → Bool
has_job n name js = among name (left_of n js)

-- the jobs left after the job for the name is taken
abbrev pub job_taken : ℕ → ℕ → List JobsLeft → List JobsLeft
job_taken n name [] = []
job_taken n name (j ∷ js) = if j.number == n then record { number = j.number; names = without_first name j.names } ∷ js else j ∷ job_taken n name js

-- the jobs left after the request with this number is closed
abbrev pub jobs_closed : ℕ → List JobsLeft → List JobsLeft
jobs_closed n [] = []
jobs_closed n (j ∷ js) = if j.number == n then js else j ∷ jobs_closed n js

-- the jobs left after the oldest waiting request is opened, with a job for each of its targets
abbrev pub jobs_opened : List Asked → List JobsLeft → List JobsLeft
jobs_opened [] left = left
jobs_opened (a ∷ rest) left = left ++ record { number = a.number; names = targets_of a.request } ∷ []
