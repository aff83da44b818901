-- The pending operations of live threads, and when none is left.
use Rattle.std.specs.Prelude.{◌≡◌, ◌≤◌, ℕ, Bool, true, false, List, [], ◌∷◌, Option, Some, None, if◌then◌else◌, nat_lt, length, slice_index, filter_map}
use Rattle.std.specs.List.{list_any}
use Rattle.thread_state.specs.declared.poll_rule.Arming.{Arming}
use Rattle.operations.specs.declared.Kind.{Kind}
use Rattle.operations.specs.declared.Kind.TheVariants as kind
use Rattle.operations.specs.Requests.{kind_of}
use Rattle.desk.specs.declared.entries.Live.{Live}
use Rattle.desk.specs.Fields.{DeskSeen, at}
use Rattle.desk.specs.Machine.{State, Current}
use Rattle.desk.specs.Targets.{untold, untold_of, due_of}
use Rattle.coordinator_core.specs.declared.listing.PendingOp.{PendingOp}

-- The operation of this kind and number is pending for the thread, if there is a number. The thread's place was last
-- armed with `last`.
abbrev pub telling_by : Kind → Live → (last : ℕ) → Option ℕ → Option PendingOp
telling_by k l last None = None
telling_by k l last (Some n) = Some record { name = l.name; target = record { place = l.place; kind = k }; number = n; last = last }

-- The kind of the pending requests: that of the oldest open one. If none is open, nothing is pending.
abbrev pub kind_told_in : List Current → Kind
kind_told_in [] = kind.Handshake
kind_told_in (c ∷ cs) = kind_of c.request

abbrev pub kind_told : State → Kind
kind_told s = kind_told_in s.opened

-- The pending operation of a live thread: the oldest open request for it with a greater number than its place was last
-- armed with. None if the place doesn't exist.
abbrev pub telling_of : State → Kind → Arming → Live → Option PendingOp
telling_of s k armer l =
    if nat_lt l.place (length armer.armed) then telling_by k l (slice_index armer.armed l.place) (untold s l.name (slice_index armer.armed l.place)) else None

-- The pending operation of a live thread if the only open request is a handshake of this number, for this thread.
abbrev pub telling_alone : Arming → ℕ → Live → Option PendingOp
telling_alone armer n l =
    if nat_lt l.place (length armer.armed) then telling_by kind.Handshake l (slice_index armer.armed l.place) (untold_of n (slice_index armer.armed l.place)) else None

-- The request of this number is for each of these live threads, and no other open request is.
abbrev pub AreAskedAlone : State → ℕ → List Live → Type 0
AreAskedAlone s n [] = Unit {0}
AreAskedAlone s n (l ∷ ls) = ((last : ℕ) → untold s l.name last ≡ untold_of n last) × AreAskedAlone s n ls

-- The pending operations of these live threads, in their order.
abbrev pub tellings : State → Kind → Arming → List Live → List PendingOp
tellings s k armer ls = filter_map (telling_of s k armer) ls

abbrev pub is_there : Option ℕ → Bool
is_there None = false
is_there (Some n) = true

-- Whether more is pending for the thread after this operation.
abbrev pub more_behind : State → Option PendingOp → Bool
more_behind s None = false
more_behind s (Some t) = is_there (untold s t.name t.number)

-- Whether more is pending for any of these threads.
abbrev pub any_more : State → Kind → Arming → List Live → Bool
any_more s k armer ls = list_any (λ l. more_behind s (telling_of s k armer l)) ls

-- The live threads that are due for an open request.
abbrev pub due_in : State → List Live
due_in s = due_of s.opened s.live

-- A look at the desk: the desk at that time, the list, and whether more is pending.
pub record Listing : Type 0 where
  pub seen : DeskSeen
  pub list : List PendingOp
  pub has_more : Bool

-- If no more is pending, the list has all pending operations of due threads.
abbrev pub IsListing : Arming → Listing → Type 0
IsListing armer l =
    l.has_more ≡ false → (k : Kind) × (l.list ≡ tellings (at l.seen) k armer (due_in (at l.seen)))
    × (any_more (at l.seen) k armer (due_in (at l.seen)) ≡ false)

-- Each of these places is armed with the operation's number or a greater one.
abbrev pub AreArmed : Arming → List PendingOp → Type 0
AreArmed armer [] = Unit {0}
AreArmed armer (t ∷ ts) = (t.number ≤ slice_index armer.armed t.target.place) × AreArmed armer ts

-- Nothing is pending for a due thread.
abbrev pub IsAllTold : State → Arming → Type 0
IsAllTold s armer = (k : Kind) × (tellings s k armer (due_in s) ≡ [])
