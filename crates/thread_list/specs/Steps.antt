-- What a running thread keeps, and what its steps lead to.
use Rattle.std.specs.Prelude.{◌≡◌, ◌⊎◌, ◌<◌, ◌==◌, [], ℕ, Option, Some, None, Bool, true, false}
use Rattle.thread_state.specs.declared.State.{State}
use Rattle.thread_state.specs.declared.State.TheVariants.{AtPoll, Serving}
use Rattle.thread_state.specs.declared.Back.{Back}
use Rattle.thread_state.specs.States.{either, state_of}
use Rattle.bodies.specs.Bodies.{BodyView, SpareView, IsPublished}
use Rattle.operations.specs.Asks.{reply}
use Rattle.operations.specs.Jobs.{DoneView}
use Rattle.desk.specs.declared.entries.Entry.{Entry}
use Rattle.desk.specs.Finishing.{FinishSeen}
use Rattle.desk.specs.JobsFit.{is_asked_by}
use Rattle.desk.specs.Machine.{State as DeskState, lawful}
use Rattle.berths.specs.Berths.{Moved, Went}
use Rattle.berths.specs.declared.room.ToldJob.{ToldJob}
use Rattle.berths.specs.declared.room.BodyAct.TheVariants.{MovedIn, Served}
use Rattle.thread_list.specs.declared.polls.Poll.{Poll}
use Rattle.thread_list.specs.Moves.{Running, IsOf, IsFirst, IsGiven, Crosses, IsCleared, as_polled, is_running, is_there}
use Rattle.thread_list.specs.BodyStates.{IsReady, IsAnswered, serves}

-- What a running thread keeps: a body is the thread's own, the thread has it in hand where it runs its own code, its name and its first body,
-- with an empty stack and published once, went into its berth when it started, a body that it hasn't in hand went there since, and what a job
-- answered is by the body with which the job came out.
pub record IsRunning (places name place : ℕ) (state : State) (body : Option BodyView) (answer : Option DoneView) (seat : SpareView) (moved_in crossed : Moved) : Type 0 where
  pub own : IsOf name place body
  pub there : is_running state ≡ true → is_there body ≡ true
  pub named : 0 < name
  pub seated : place < places
  pub moved_in_there : Went place name MovedIn moved_in
  pub moved_in_empty : moved_in.body.image.frames ≡ []
  pub moved_in_first : IsFirst name seat moved_in.body
  pub given_there : IsGiven name place body crossed
  pub ready : serves state ≡ true → IsReady body
  pub answered : IsAnswered body crossed answer

-- Its oldest job is run: its body came out of its berth with the job, to serve, and was published.
abbrev pub TakesUp : Running → Running → ℕ → Back → Type 0
TakesUp old new n back
    = (job : ToldJob) × (after : BodyView) × (old.state ≡ AtPoll back) × (new.state ≡ Serving back)
    × (new.body ≡ Some after) × (n ≡ job.number)
    × Went old.place old.name (Served (Some job)) new.crossed × IsPublished new.crossed.body after

-- No operation was pending: its body came out of its berth without a job and was published, and a poll let the thread continue.
abbrev pub PassesOn : Running → Running → Back → Type 0
PassesOn old new back
    = (after : BodyView) × (old.state ≡ AtPoll back) × (new.state ≡ state_of back)
    × (new.body ≡ Some (as_polled after 0)) × Went old.place old.name (Served None) new.crossed
    × IsPublished new.crossed.body after

abbrev pub next_of : Bool → Running → Running → ℕ → Back → Type 0
next_of true old new n back = PassesOn old new back
next_of false old new n back = TakesUp old new n back

abbrev pub StopsNext : Running → Running → ℕ → Type 0
StopsNext old new n = (back : Back) × next_of (n == 0) old new n back

-- What the job that came out with the body answered was entered, by the body's frames, the operation cleared, and the thread polled.
abbrev pub EndsServing : Running → Running → Poll → FinishSeen → Type 0
EndsServing old new said finish
    = (back : Back) × (before : BodyView) × (after : BodyView) × (found : ℕ) × (job : ToldJob)
    × (old.state ≡ Serving back) × (old.body ≡ Some before)
    × (old.crossed.act ≡ Served (Some job))
    × (finish.stands.entry ≡ Entry.Finish job.number old.name (reply job.ask before.image.frames))
    × IsCleared job.number before after × (new.body ≡ Some (as_polled after found))
    × Crosses (Serving back) found said new.state

-- The desk in this state doesn't enter the answer of the job that came out with the body: the entry isn't lawful there, or the
-- operation asks for something else.
abbrev pub IsNotEntered : DeskState → Running → Type 0
IsNotEntered s old
    = (job : ToldJob) × (body : BodyView) × (old.body ≡ Some body) × (old.crossed.act ≡ Served (Some job))
    × ((lawful s (Entry.Finish job.number old.name (reply job.ask body.image.frames)) ≡ false) ⊎ (is_asked_by job.number job.ask s.opened ≡ false))

-- A thread whose Start is entered.
pub record Starting : Type 0 where
  pub name : ℕ
  pub place : ℕ
  pub methods : ℕ

-- A thread that got this body back has polled: it continues where `back` leads, or stops there.
abbrev pub PollsIn : BodyView → Running → Back → Type 0
PollsIn body new back
    = (found : ℕ) × (new.body ≡ Some (as_polled body found))
    × (either (found == 0) (state_of back) back ≡ Some new.state)
