-- The acts of the system's threads follow the definitions. Here `old` and `new` are the system's thread before and
-- after the act, `t` is the world's thread that `old` matches, and `result` is the code's result.
use Rattle.std.specs.Prelude.{◌≡◌, ℕ, Bool, true, false, List, Option, Some, None, Result, Ok, Err, find}
use Rattle.frames.specs.declared.Change.{Change as CodeChange}
use Rattle.frames.specs.ImageView.{SameBag, Counts}
use Rattle.system.specs.declared.thread.Marks.{Marks}
use Rattle.system.specs.declared.thread.Moments.{Moments}
use Rattle.system.specs.declared.thread.Thread.{Thread as Kept}
use Rattle.system.specs.declared.requests.Open.{Open}
use Rattle.system.specs.declared.events.Act.{Act}
use Rattle.system.specs.declared.events.Act.TheVariants.{Begin, Change, End, Exit, Finish, Clear, Stack}
use Rattle.system.specs.declared.answers.Answer.{Answer}
use Rattle.system.specs.declared.answers.Answer.TheVariants.{Changed, NoChange, Exited}
use Rattle.system.specs.declared.answers.Refusal.{Refusal}
use Rattle.system.specs.Verdict.{Verdict, refused, accepted}
use Rattle.system.specs.Operations.{Requests, with_mark}
use Rattle.system.specs.Threads.{Thread}
use Rattle.system.specs.Marking.{SameThread}
use Rattle.system.specs.Places.{Effect, becomes, leaves, marks}
use Rattle.system.specs.Kept.Threads.{undone_by, uncleared_by}

-- The plain acts change only the thread and need no memory. The others are Change, which also changes the index, Exit,
-- which makes the place vacant, and Stack.
abbrev pub is_plain : Act → Bool
is_plain Change = false
is_plain Exit = false
is_plain Stack = false
is_plain other = true

-- A plain act with the state that the system lends: the open operations, the oldest first, and the moment.
pub record Lent : Type 0 where
  pub act : Act
  pub opens : List Open
  pub now : ℕ

-- The number of the operation found, or 0.
abbrev pub number_of : Option Open → ℕ
number_of None = 0
number_of (Some open_) = open_.number

-- The operation of a Finish or Clear: the least one told and not done, or told and not cleared.
abbrev pub serves : Act → List Open → Kept → ℕ
serves Finish opens kept = number_of (find (undone_by kept) opens)
serves Clear opens kept = number_of (find (uncleared_by kept) opens)
serves other opens kept = 0

-- The marks and moments after an accepted act.
abbrev pub marked_by : Act → ℕ → Marks → Marks
marked_by Finish number m = record m { done = number }
marked_by Clear number m = record m { cleared = number }
marked_by other number m = m

abbrev pub timed_by : Act → ℕ → Moments → Moments
timed_by Begin now m = record m { begun = now }
timed_by End now m = record m { stored = m.begun }
timed_by other now m = m

-- The reach of an act: the thread alone; or also one more mark, in done or in cleared, beside the marks of these
-- requests.
pub data Reach : Type 0 where
  thread_alone : Reach
  finishes : ℕ → Requests → Reach
  clears : ℕ → Requests → Reach

abbrev pub reach_of : Act → ℕ → Requests → Reach
reach_of Finish number requests = finishes number requests
reach_of Clear number requests = clears number requests
reach_of other number requests = thread_alone

-- The effect of an act of this reach: the thread becomes the one that the effect makes; or the requests have this one
-- mark more, and the thread is unchanged. No plain act leaves its place.
abbrev pub CameAbout : Reach → Effect → Kept → Thread → Type 0
CameAbout thread_alone (becomes made) new t = SameThread new made
CameAbout (finishes number before) (marks requests) new t =
    (requests ≡ record before { done = with_mark before.done number t.name }) × SameThread new t
CameAbout (clears number before) (marks requests) new t =
    (requests ≡ record before { cleared = with_mark before.cleared number t.name }) × SameThread new t
CameAbout reach effect new t = ⊥

-- The rest of an accepted act: its reach, and the thread's marks and moments.
pub record Left : Type 0 where
  pub reach : Reach
  pub marks : Marks
  pub moments : Moments

-- The name and the counts are unchanged, and these are the marks and moments.
pub record Becomes (m : Marks) (times_ : Moments) (old new : Kept) : Type 0 where
  pub name : new.name ≡ old.name
  pub counted : SameBag new.image.counted old.image.counted
  pub marks_are : new.marks ≡ m
  pub moments_are : new.moments ≡ times_

-- The code follows the verdict. For a refusal it returns the refusal and leaves the thread unchanged. For an effect it
-- returns the answer, has the effect, and changes nothing else but the rest.
abbrev pub Followed : Left → Verdict Effect → Kept → Kept → Thread → Result Answer Refusal → Type 0
Followed left (refused refusal) old new t result = (result ≡ Err refusal) × (new ≡ old)
Followed left (accepted effect answer) old new t result =
    (result ≡ Ok answer) × CameAbout left.reach effect new t × Becomes left.marks left.moments old new

-- The code follows the verdict, and the marks and moments are unchanged.
abbrev pub DidAlone : Verdict Effect → Kept → Kept → Thread → Result Answer Refusal → Type 0
DidAlone verdict old new t result =
    Followed (record { reach = thread_alone; marks = old.marks; moments = old.moments }) verdict old new t result

-- The rest of an accepted act, for a world with these requests.
abbrev pub left_by : Lent → Requests → Kept → Left
left_by lent requests old = record {
  reach = reach_of lent.act (serves lent.act lent.opens old) requests;
  marks = marked_by lent.act (serves lent.act lent.opens old) old.marks;
  moments = timed_by lent.act lent.now old.moments;
}

-- The code follows the verdict of an act, for a world with these requests.
abbrev pub Did : Lent → Requests → Verdict Effect → Kept → Kept → Thread → Result Answer Refusal → Type 0
Did lent requests verdict old new t result = Followed (left_by lent requests old) verdict old new t result

-- The result of an exit.
abbrev pub SaysExit : Verdict Effect → Thread → Option Refusal → Type 0
SaysExit verdict t None = verdict ≡ accepted leaves (Exited t.name)
SaysExit verdict t (Some refusal) = verdict ≡ refused refusal

-- The answer to a Change.
abbrev pub said_change : Option CodeChange → Answer
said_change None = NoChange
said_change (Some change) = Changed change.code.serial change.by

-- A change moves its code's count to the count in the stack, and no other count.
abbrev pub Counted : Option CodeChange → Kept → Kept → Type 0
Counted None old new = new ≡ old
Counted (Some change) old new = Counts old.image new.image change × (new ≡ record old { image = new.image })

-- The code follows the verdict of a Change.
abbrev pub DidNext : Verdict Effect → Kept → Kept → Thread → Result (Option CodeChange) Refusal → Type 0
DidNext (refused refusal) old new t result = (result ≡ Err refusal) × (new ≡ old)
DidNext (accepted effect answer) old new t result =
    (change : Option CodeChange) × (result ≡ Ok change) × (answer ≡ said_change change) × CameAbout thread_alone effect new t × Counted change old new
