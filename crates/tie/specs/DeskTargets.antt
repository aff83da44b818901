-- How a name relates to the open operations, in the core and at the desk.
use Rattle.std.specs.Prelude.{Option, Some, None, ◌≡◌, ◌↔◌, ℕ, true, false, List, slice_get, not, find, filter}
use Rattle.system.specs.declared.events.Event.{Event}
use Rattle.system.specs.declared.events.Event.TheVariants as event
use Rattle.system.specs.declared.answers.Answer.{Answer}
use Rattle.system.specs.declared.answers.Answer.TheVariants as answer
use Rattle.system.specs.declared.answers.Refusal.TheVariants as refusal
use Rattle.frames.specs.declared.board_rule.EntryState.TheVariants as entry
use Rattle.frames.specs.BoardRule.{SlotState}
use Rattle.method_table.specs.declared.Code.{Code}
use Rattle.method_table.specs.Entries.{entry_state, newest_in}
use Rattle.operations.specs.Requests.{is_census}
use Rattle.system.specs.Threads.{Thread}
use Rattle.system.specs.Operations.{Opened, is_marked}
use Rattle.system.specs.World.{World, start_world, thread_at, is_live, is_live_target}
use Rattle.system.specs.Runs.{answer_to, world_after}
use Rattle.desk.specs.declared.entries.Entry.TheVariants.{Finish}
use Rattle.desk.specs.declared.entries.Standing.TheVariants.{NothingOpen, NotOf, Gone, Asked}
use Rattle.desk.specs.declared.entries.Target.{Target}
use Rattle.desk.specs.Machine.{lawful, place_of}
use Rattle.desk.specs.Targets.{is_target_of, standing, untold}
use Rattle.tie.specs.BoardOf.{board_of}
use Rattle.tie.specs.PollRow.{row_of}
use Rattle.tie.specs.DeskOf.{seat_of, current_of, desk_of, next_of}

-- The thread of this name is a target of an open request, whether or not a Tell has armed its poll yet, and the desk finds its place.
pub record IsAsked (w : World) (name : ℕ) : Type 0 where
  pub target : Target
  pub standing_is : standing (desk_of w) name ≡ Asked target
  pub place_is : seat_of name w.places ≡ Some target.place

-- The answer of a Tell corresponds to the standing of the name at the desk.
abbrev pub TellSays : World → ℕ → Answer → Type 0
TellSays w name (answer.Refused refusal.NothingOpen) = standing (desk_of w) name ≡ NothingOpen
TellSays w name (answer.Refused refusal.NotOf) = standing (desk_of w) name ≡ NotOf
TellSays w name (answer.Refused refusal.AlreadyTold) = IsAsked w name
TellSays w name answer.Told = IsAsked w name
TellSays w name answer.Gone = standing (desk_of w) name ≡ Gone
TellSays w name given = ⊥

-- For a live name: it is a live target of an open operation in the core exactly where the desk lists it as one, by the names that were
-- given out before the Open. If a Tell made the handshake pending for it, its Finish is lawful at the desk exactly where that Finish is
-- the next one in the core.
pub record TargetsAreTheSame (w : World) : Type 0 where
  pub targets : (i : ℕ) (o : Opened) (name : ℕ)
      → slice_get w.requests.opened i ≡ Some o
      → is_live w name ≡ true
      → is_target_of (desk_of w).next_name name (current_of w.requests.done w.log o) ≡ is_live_target w o name
  pub tells : (name : ℕ) → TellSays w name (answer_to w (event.Tell name))
  pub finishes : (p i reply : ℕ) (t : Thread) (o : Opened)
      → thread_at w p ≡ Some t
      → slice_get w.requests.opened i ≡ Some o
      → is_census o.request ≡ false
      → is_marked w.requests.told o.number t.name ≡ true
      → (lawful (desk_of w) (Finish o.number t.name reply) ≡ true) ↔ (next_of w.requests t ≡ Some o)

abbrev pub DesksHaveTheTargets : Type 0
DesksHaveTheTargets = (places slots methods : ℕ) (events : List Event) → TargetsAreTheSame (world_after (start_world places slots methods) events)

-- The number of the operation that a search found.
abbrev pub number_found : Option Opened → Option ℕ
number_found None = None
number_found (Some o) = Some o.number

-- Take the thread at a place whose poll word was last armed with the number that the poll row of the world has there. The next operation
-- of this thread that isn't told yet at the desk is the one for which a Tell in the core arms its poll.
abbrev pub UntoldAreTheSame : World → Type 0
UntoldAreTheSame w = (p : ℕ) (t : Thread) → thread_at w p ≡ Some t
    → untold (desk_of w) t.name (row_of w p).armed
    ≡ number_found
    (find (λ o. not (is_marked w.requests.told o.number t.name))
    (filter (λ o. is_live_target w o t.name) w.requests.opened))

abbrev pub DesksTellTheSame : Type 0
DesksTellTheSame = (places slots methods : ℕ) (events : List Event) → UntoldAreTheSame (world_after (start_world places slots methods) events)

-- What the board's keeper knows of a slot agrees with the newest code at the desk.
abbrev pub AgreesWith : Option Code → SlotState → Type 0
AgreesWith None s = (s.serial ≡ 0) × (s.state ≡ entry.Vacant)
AgreesWith (Some code) s = (s.serial ≡ code.serial) × (s.state ≡ entry_state code.state)

-- The desk and the board of a world have the same codes, and the desk and the places have the same threads.
pub record IsOfOneWorld (w : World) : Type 0 where
  pub codes : (slot : ℕ) → AgreesWith (newest_in (desk_of w).table.codes slot) ((board_of w).slot slot)
  pub threads : (name place : ℕ)
      → place_of name (desk_of w).live ≡ Some place
      → (t : Thread) × (thread_at w place ≡ Some t) × (t.name ≡ name)

abbrev pub DeskAndBoardAreOfOneWorld : Type 0
DeskAndBoardAreOfOneWorld = (places slots methods : ℕ) (events : List Event) → IsOfOneWorld (world_after (start_world places slots methods) events)
