-- The waiting requests, the open operations, and the sets told, done and cleared. (HotSpot's runtime overview: VM
-- operations wait in a queue; JEP 312: a handshake runs a callback once for each chosen thread)
use Rattle.std.specs.Prelude.{ℕ, max, Bool, not, ◌&&◌, ◌==◌, List, [], ◌∷◌, map, filter, Option, Some, None}
use Rattle.std.specs.List.{list_any}
use Rattle.operations.specs.declared.Request.{Request}
use Rattle.operations.specs.Requests.{is_census}

-- The greater of a number and another, if there is another.
abbrev pub max_with : ℕ → Option ℕ → ℕ
max_with n None = n
max_with n (Some m) = max n m

-- The greatest number of a list, if any.
abbrev pub greatest : List ℕ → Option ℕ
greatest [] = None
greatest (n ∷ ns) = Some (max_with n (greatest ns))

-- A numbered request.
pub record Waiting : Type 0 where
  pub number : ℕ
  pub request : Request

-- An open operation with the targets that were live when it was opened. `operated` is for a census.
pub record Opened : Type 0 where
  pub number : ℕ
  pub request : Request
  pub live : List ℕ
  pub operated : Bool

-- An operation and the name of a thread.
pub record Mark : Type 0 where
  pub operation : ℕ
  pub name : ℕ

-- The waiting requests, the oldest first; the open operations, the oldest first; and three sets of marks.
pub record Requests : Type 0 where
  pub waiting : List Waiting
  pub opened : List Opened
  pub told : List Mark
  pub done : List Mark
  pub cleared : List Mark

-- The requests at the start.
abbrev pub no_requests : Requests
no_requests = record { waiting = []; opened = []; told = []; done = []; cleared = [] }

-- The set has this operation for this thread.
abbrev pub is_marked : List Mark → ℕ → ℕ → Bool
is_marked marks operation name = list_any (λ mark. (mark.operation == operation) && (mark.name == name)) marks

-- The set with one more mark.
abbrev pub with_mark : List Mark → ℕ → ℕ → List Mark
with_mark marks operation name = record { operation = operation; name = name } ∷ marks

-- The marks of one operation for several names.
abbrev pub marks_of : ℕ → List ℕ → List Mark
marks_of operation names = map (λ name. record { operation = operation; name = name }) names

-- The operations told to the thread and not cleared for it.
abbrev pub pending : Requests → ℕ → List ℕ
pending requests name =
    map (λ mark. mark.operation) (filter (λ mark. (mark.name == name) && not (is_marked requests.cleared mark.operation name)) requests.told)

-- A poll stops for the greatest pending operation. (JEP 312: the poll is per thread)
abbrev pub poll_of : Requests → ℕ → Option ℕ
poll_of requests name = greatest (pending requests name)

-- A census is open.
abbrev pub is_safepoint : Requests → Bool
is_safepoint requests = list_any (λ opened. is_census opened.request) requests.opened

-- An open census was told to the thread and isn't operated. (A stopped thread is held until the census is operated.)
abbrev pub awaits_census : Requests → ℕ → Bool
awaits_census requests name =
    list_any (λ opened. is_census opened.request && not opened.operated && is_marked requests.told opened.number name) requests.opened
