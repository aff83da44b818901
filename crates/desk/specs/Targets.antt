-- The meaning of the open requests for a thread.
use Rattle.std.specs.Prelude.{ℕ, List, [], ◌∷◌, Bool, ◌==◌, ◌&&◌, not, nat_lt, nat_le, true, false, find, filter, Option, Some, None, if◌then◌else◌}
use Rattle.operations.specs.declared.Request.{Request}
use Rattle.operations.specs.declared.Request.TheVariants.{Handshake, Census}
use Rattle.std.specs.List.{list_any}
use Rattle.operations.specs.Names.{among, is_empty}
use Rattle.operations.specs.declared.Kind.{Kind}
use Rattle.operations.specs.declared.Kind.TheVariants as kind
use Rattle.operations.specs.Requests.{is_census, kind_of}
use Rattle.desk.specs.declared.entries.Live.{Live}
use Rattle.desk.specs.declared.entries.Standing.{Standing}
use Rattle.desk.specs.declared.entries.Standing.TheVariants.{NothingOpen, NotOf, Gone, Asked}
use Rattle.desk.specs.declared.entries.Progress.{Progress}
use Rattle.desk.specs.declared.entries.Progress.TheVariants.{NotTold, Done, Undone}
use Rattle.desk.specs.Machine.{State, Current, place_of, has_census}

-- a handshake is for its targets, a census for all names given out
abbrev pub is_asked : ℕ → ℕ → Request → Bool
is_asked next name Census = nat_lt 0 name && nat_lt name next
is_asked next name (Handshake targets ask) = among name targets

-- the name has no Finish, or the census no Operate
abbrev pub is_owed : ℕ → Current → Bool
is_owed name c = if is_census c.request then not c.operated else among name c.due

-- the request is for the name, and the name was given out before the Open. So a thread that is live was live then
abbrev pub is_target_of : ℕ → ℕ → Current → Bool
is_target_of next name c = is_asked next name c.request && nat_lt name c.before

-- the kind of the open requests. A census is open alone
abbrev pub kind_among : List Current → Kind
kind_among cs = if has_census cs then kind.Census else kind.Handshake

-- the standing of a name with an open request for it, by the name's place if it is live
abbrev pub standing_at : Option ℕ → Bool → Kind → Standing
standing_at None has k = Gone
standing_at (Some place) has k = if has then Asked record { place = place; kind = k } else Gone

-- the standing of a name: what the open requests mean for its thread
abbrev pub standing_to : ℕ → List Live → ℕ → List Current → Standing
standing_to next ls name cs =
    if is_empty cs then NothingOpen else if list_any (λ c. is_asked next name c.request) cs
    then standing_at (place_of name ls) (list_any (is_target_of next name) cs) (kind_among cs) else NotOf

abbrev pub standing : State → ℕ → Standing
standing s name = standing_to s.next_name s.live name s.opened

-- The next definitions are about a live thread whose poll word was last armed with the number `last`. A request for
-- this thread is told if its number is at most `last`, since the poll word was armed for it.
abbrev pub is_untold : ℕ → ℕ → ℕ → Current → Bool
is_untold next name last c = is_target_of next name c && nat_lt last c.number

abbrev pub is_told : ℕ → ℕ → ℕ → Current → Bool
is_told next name last c = is_target_of next name c && nat_le c.number last

abbrev pub is_undone : ℕ → ℕ → ℕ → Current → Bool
is_undone next name last c = is_told next name last c && is_owed name c

abbrev pub number_of : Option Current → Option ℕ
number_of None = None
number_of (Some c) = Some c.number

-- the oldest request for the thread that wasn't told
abbrev pub untold_in : ℕ → ℕ → ℕ → List Current → Option ℕ
untold_in next name last cs = number_of (find (is_untold next name last) cs)

abbrev pub untold : State → ℕ → ℕ → Option ℕ
untold s name last = untold_in s.next_name name last s.opened

-- the oldest told request that the thread isn't done with, or else whether one was told
abbrev pub progress_by : Bool → Option Current → Progress
progress_by told (Some c) = Undone c.number
progress_by true None = Done
progress_by false None = NotTold

abbrev pub progress_in : ℕ → ℕ → ℕ → List Current → Progress
progress_in next name last cs = progress_by (list_any (is_told next name last) cs) (find (is_undone next name last) cs)

abbrev pub progress : State → ℕ → ℕ → Progress
progress s name last = progress_in s.next_name name last s.opened

-- a live thread was live at the Open and is due
abbrev pub is_due_target : Live → Current → Bool
is_due_target l c = nat_lt l.name c.before && is_owed l.name c

-- the live threads that are due for a request
abbrev pub due_of : List Current → List Live → List Live
due_of cs ls = filter (λ l. list_any (is_due_target l) cs) ls

abbrev pub oldest : List Current → List Current
oldest [] = []
oldest (c ∷ cs) = c ∷ []

-- only the oldest, or all
abbrev pub of_which : Bool → List Current → List Current
of_which true cs = oldest cs
of_which false cs = cs

-- the thread of the name is live and due for a request
abbrev pub is_due_name : ℕ → List Current → List Live → Bool
is_due_name name cs ls = list_any (λ l. l.name == name && list_any (is_due_target l) cs) ls

-- the thread of the name is due for the oldest open request
abbrev pub is_awaited : State → ℕ → Bool
is_awaited s name = is_due_name name (oldest s.opened) s.live

-- the live name at a place
abbrev pub name_at : ℕ → List Live → Option ℕ
name_at place [] = None
name_at place (l ∷ ls) = if l.place == place then Some l.name else name_at place ls

-- the least live name above this one
abbrev pub live_after : ℕ → List Live → Option ℕ
live_after name [] = None
live_after name (l ∷ ls) = if nat_lt name l.name then Some l.name else live_after name ls

-- the number of the only open request if it is a handshake, otherwise None
abbrev pub only_handshake : List Current → Option ℕ
only_handshake [] = None
only_handshake (c ∷ []) = if is_census c.request then None else Some c.number
only_handshake (c ∷ d ∷ cs) = None

-- this number if the poll word that was last armed with `last` wasn't armed for it, otherwise None
abbrev pub untold_of : ℕ → ℕ → Option ℕ
untold_of n last = if nat_lt last n then Some n else None

-- the kind of the oldest of these requests
abbrev pub kind_of_oldest : List Current → Option Kind
kind_of_oldest [] = None
kind_of_oldest (c ∷ cs) = Some (kind_of c.request)

-- the kind of the oldest open request, or None
abbrev pub open_kind : State → Option Kind
open_kind s = kind_of_oldest s.opened
