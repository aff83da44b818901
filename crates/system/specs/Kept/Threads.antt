-- The tests and acts of a thread over the system's numbers. `Places.antt` and `Step.antt` have the rules that these
-- restate. Proofs show that both agree, and the headline cites only those.
use Rattle.std.specs.Prelude.{◌≡◌, ℕ, Bool, true, false, not, ◌&&◌, ◌||◌, ◌==◌, List, [], ◌∷◌, Option, Some, None, find, length, nat_lt, nat_le, if◌then◌else◌}
use Rattle.std.specs.List.{list_any}
use Rattle.thread_state.specs.declared.State.TheVariants.{New}
use Rattle.frames.specs.declared.CodeId.{CodeId}
use Rattle.frames.specs.Stack.{times}
use Rattle.operations.specs.Requests.{is_census, is_target, lists}
use Rattle.system.specs.declared.thread.Marks.{Marks}
use Rattle.system.specs.declared.thread.Thread.{Thread as Kept}
use Rattle.system.specs.declared.requests.Open.{Open}
use Rattle.system.specs.declared.events.Act.{Act}
use Rattle.system.specs.declared.answers.Refusal.{Refusal}
use Rattle.system.specs.declared.answers.Refusal.TheVariants.{Illegal, Publishing, Unpublished, DepthFull, NothingOpen, NotOf, NotTold, AlreadyDone}
use Rattle.system.specs.Verdict.{Verdict, unless◌refuse◌then◌}
use Rattle.system.specs.Operations.{Requests, Opened, is_marked, poll_of}
use Rattle.system.specs.Threads.{Thread}
use Rattle.system.specs.Marking.{SameThread}
use Rattle.system.specs.Places.{Effect, may_while_publishing, lawful_in, pushed}

-- A poll stops for the operation last told, unless it is cleared.
abbrev pub poll_by : Marks → Option ℕ
poll_by m = if m.told == m.cleared then None else Some m.told

-- The world's poll of the thread is the system's.
abbrev pub PollIs : Requests → Thread → Kept → Type 0
PollIs requests t kept = poll_of requests t.name ≡ poll_by kept.marks

-- The thread is a live target: it is a target of the request and started before the operation was opened.
abbrev pub is_live_for : Open → Kept → Bool
is_live_for open_ kept = nat_le kept.name open_.names && is_target open_.request kept.name

-- The operation was told to the thread, or is done for it. Numbers are told in rising order and skip no operation that
-- has the thread as a live target. The number last told is of such an operation and needs no lookup. A census is done
-- for all once it is operated.
abbrev pub was_told : Open → Kept → Bool
was_told open_ kept = nat_le open_.number kept.marks.told && ((open_.number == kept.marks.told) || is_live_for open_ kept)

abbrev pub is_done : Open → Kept → Bool
is_done open_ kept = if is_census open_.request then open_.operated else nat_le open_.number kept.marks.done

abbrev pub told_by : Kept → Open → Bool
told_by kept open_ = was_told open_ kept

abbrev pub undone_by : Kept → Open → Bool
undone_by kept open_ = was_told open_ kept && not (is_done open_ kept)

-- An open handshake lists the thread. An undone handshake was told to the thread, so it lists the thread.
abbrev pub is_asked : Kept → Open → List Open → Bool
is_asked kept open_ opens = not (is_census open_.request) || list_any (λ o. lists o.request kept.name) opens

abbrev pub uncleared_by : Kept → Open → Bool
uncleared_by kept open_ = was_told open_ kept && nat_lt kept.marks.cleared open_.number

abbrev pub awaited_by : Kept → Open → Bool
awaited_by kept open_ = is_census open_.request && not open_.operated && was_told open_ kept

-- The operation has the thread as a live target and wasn't told to it. A Tell takes the least such operation.
abbrev pub untold_by : Kept → Open → Bool
untold_by kept open_ = nat_lt kept.marks.told open_.number && is_live_for open_ kept

abbrev pub live_by : Kept → Open → Bool
live_by kept open_ = is_live_for open_ kept

abbrev pub marks_told : Kept → Option Open → Kept
marks_told kept None = kept
marks_told kept (Some open_) = record kept { marks = record kept.marks { told = open_.number } }

abbrev pub kept_told : List Open → Kept → Kept
kept_told opens kept = marks_told kept (find (untold_by kept) opens)

-- Why no operation is pending for a thread: none is open, the thread is a target of none, none was told to it, or all
-- told to it are served.
abbrev pub idle_refusal : Bool → Bool → Bool → Refusal
idle_refusal empty of told = if empty then NothingOpen else if not of then NotOf else if not told then NotTold else AlreadyDone

-- An open operation and the thread's marks for it. Done and cleared count only if it was told.
pub record SameOpen (open_ : Open) (kept : Kept) (requests : Requests) (o : Opened) : Type 0 where
  pub number : open_.number ≡ o.number
  pub request : open_.request ≡ o.request
  pub operated : open_.operated ≡ o.operated
  pub told : is_marked requests.told o.number kept.name ≡ was_told open_ kept
  pub target : is_marked requests.told o.number kept.name ≡ true → is_target open_.request kept.name ≡ true
  pub done : is_marked requests.told o.number kept.name ≡ true → is_marked requests.done o.number kept.name ≡ is_done open_ kept
  pub cleared : is_marked requests.told o.number kept.name ≡ true → is_marked requests.cleared o.number kept.name ≡ nat_le open_.number kept.marks.cleared

-- The lists match one for one, the oldest first.
abbrev pub OpenBy : List Open → Kept → Requests → List Opened → Type 0
OpenBy [] kept requests [] = Unit {0}
OpenBy (open_ ∷ opens) kept requests (o ∷ os) = SameOpen open_ kept requests o × OpenBy opens kept requests os
OpenBy opens kept requests opened = ⊥

-- The state that an act uses: the thread, its poll and the open operations.
pub record IsHere (opens : List Open) (kept : Kept) (requests : Requests) (t : Thread) : Type 0 where
  pub thread : SameThread kept t
  pub poll : poll_of requests t.name ≡ poll_by kept.marks
  pub opened : OpenBy opens kept requests requests.opened

-- The first common test of all acts that fails.
abbrev pub common_refusal : Kept → Act → Option Refusal
common_refusal kept act =
    if kept.image.publishing && not (may_while_publishing act) then Some Publishing
    else if not (lawful_in act kept.held kept.state) then Some (Illegal kept.state)
    else None

-- Pushes a frame if the thread has published and the stack has room.
abbrev pub enters_frame : Thread → ℕ → Option CodeId → Verdict Effect
enters_frame t method code =
    unless t.published refuse Unpublished then
    unless nat_lt (length t.stack) 256 refuse DepthFull then
    pushed t method code

-- The first of these tests that fails.
abbrev pub frame_refusal : Kept → Option Refusal
frame_refusal kept =
    if not kept.published then Some Unpublished
    else if nat_le 256 (length kept.image.frames) then Some DepthFull
    else None

-- A new thread has an empty stack and no publication.
pub record IsNew (kept : Kept) (name : ℕ) : Type 0 where
  pub name_is : kept.name ≡ name
  pub state_is : kept.state ≡ New
  pub held_is : kept.held ≡ false
  pub published_is : kept.published ≡ false
  pub image_is : (kept.image.frames ≡ []) × (kept.image.publishing ≡ false) × ((code : CodeId) → times code kept.image.counted ≡ 0)
  pub marks_are : kept.marks ≡ record { told = 0; done = 0; cleared = 0 }
  pub moments_are : kept.moments ≡ record { begun = 0; stored = 0 }
