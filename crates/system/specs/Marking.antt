-- How the system's threads and open operations represent the world's. Three numbers of a thread replace the sets of
-- marks.
use Rattle.std.specs.Prelude.{◌≡◌, ℕ, ◌<◌, ◌≤◌, Bool, true, ◌&&◌, nat_le, List, [], ◌∷◌, Some, slice_get, is_some, if◌then◌else◌}
use Rattle.frames.specs.declared.CodeId.{CodeId}
use Rattle.frames.specs.Stack.{times}
use Rattle.frames.specs.ImageView.{ImageView}
use Rattle.operations.specs.Names.{among}
use Rattle.operations.specs.Requests.{is_census, is_target}
use Rattle.system.specs.declared.requests.Open.{Open}
use Rattle.system.specs.declared.thread.Marks.{Marks}
use Rattle.system.specs.declared.thread.Thread.{Thread as Kept}
use Rattle.system.specs.Threads.{Thread, part}
use Rattle.system.specs.Operations.{Requests, Opened, is_marked}
use Rattle.system.specs.Log.{names_given}
use Rattle.system.specs.World.{World, is_live}

-- The image has the thread's stack and its published counts.
pub record SameImage (image : ImageView) (t : Thread) : Type 0 where
  pub frames : image.frames ≡ t.stack
  pub publishing : image.publishing ≡ is_some t.changed
  pub counted : (code : CodeId) → times code image.counted ≡ part code t

-- The system's thread has all fields of the world's thread. Marks and moments follow below.
pub record SameThread (kept : Kept) (t : Thread) : Type 0 where
  pub name : kept.name ≡ t.name
  pub state : kept.state ≡ t.state
  pub held : kept.held ≡ t.held
  pub published : kept.published ≡ t.published
  pub image : SameImage kept.image t

-- Done for a thread that was told: a census if it is operated, a handshake up to the last one done.
abbrev pub done_by : Opened → Marks → Bool
done_by o m = if is_census o.request then o.operated else nat_le o.number m.done

-- Numbers are told to a thread in rising order, skip no operation that has the thread as a live target, and are done
-- and cleared in this order.
pub record SameMarks (m : Marks) (requests : Requests) (name : ℕ) : Type 0 where
  pub told_last : (n : ℕ) → is_marked requests.told n name ≡ true → n ≤ m.told
  pub told_is : 0 < m.told → is_marked requests.told m.told name ≡ true
  pub told_all : (i : ℕ) (o : Opened) → slice_get requests.opened i ≡ Some o → among name o.live ≡ true → is_marked requests.told o.number name ≡ nat_le o.number m.told
  pub done_is : (i : ℕ) (o : Opened) → slice_get requests.opened i ≡ Some o → is_marked requests.told o.number name ≡ true → is_marked requests.done o.number name ≡ done_by o m
  pub done_old : m.done ≤ m.told
  pub cleared_is : (n : ℕ) → is_marked requests.told n name ≡ true → is_marked requests.cleared n name ≡ nat_le n m.cleared
  pub cleared_old : m.cleared ≤ m.told

-- The live targets of an open operation are its targets among the first `names` that live. Lists match one for one, the
-- oldest first.
pub record SameOpened (open_ : Open) (o : Opened) (w : World) : Type 0 where
  pub number : open_.number ≡ o.number
  pub request : open_.request ≡ o.request
  pub operated : open_.operated ≡ o.operated
  pub names : open_.names ≤ names_given w.log
  pub live : (name : ℕ) → is_live w name ≡ true → among name o.live ≡ (nat_le name open_.names && is_target o.request name)

abbrev pub SameOpens : List Open → List Opened → World → Type 0
SameOpens [] [] w = Unit {0}
SameOpens (open_ ∷ opens) (o ∷ os) w = SameOpened open_ o w × SameOpens opens os w
SameOpens opens os w = ⊥
