-- In Java a poll always leads on or to a stop.
use Rattle.std.proofs.Common.{◌≡◌, ◌∙◌, sym, refl, true, false, Bool, Option, Result, ℕ, subst}
use Rattle.std.specs.Prelude.{is_none}
use Rattle.thread_state.specs.declared.State.{State}
use Rattle.thread_state.specs.declared.State.TheVariants.{Vacant, New, InJava, InVm, InNative, Blocked, NewTrans, NativeTrans, BlockedTrans, AtPoll, Serving}
use Rattle.thread_state.specs.States.{is_in_java, cross}
use Rattle.frames.specs.ImageView.{SameBag}
use Rattle.system.specs.declared.thread.Thread.{Thread as Kept}
use Rattle.system.specs.declared.answers.Answer.{Answer}
use Rattle.system.specs.declared.answers.Refusal.{Refusal}
use Rattle.system.specs.Operations.{Requests, poll_of}
use Rattle.system.specs.Threads.{Thread}
use Rattle.system.specs.Places.{crosses, polls}
use Rattle.system.specs.Kept.Acts.{DidAlone, Becomes}

pub java_is : (s : State) → is_in_java s ≡ true → s ≡ InJava
java_is InJava h = refl
java_is Vacant h = cc
java_is New h = cc
java_is InVm h = cc
java_is (InNative b) h = cc
java_is Blocked h = cc
java_is NewTrans h = cc
java_is (NativeTrans b) h = cc
java_is BlockedTrans h = cc
java_is (AtPoll b) h = cc
java_is (Serving b) h = cc

-- before the poll the thread has its old name, counts, marks and moments
pub record Before (old mid : Kept) : Type 0 where
  pub name : mid.name ≡ old.name
  pub counted : SameBag mid.image.counted old.image.counted
  pub marks_are : mid.marks ≡ old.marks
  pub moments_are : mid.moments ≡ old.moments

stays : (old mid new : Kept) → Before old mid → Becomes mid.marks mid.moments mid new → Becomes old.marks old.moments old new
stays old mid new b s = record {
  name = s.name ∙ b.name;
  counted = λ code. s.counted code ∙ b.counted code;
  marks_are = s.marks_are ∙ b.marks_are;
  moments_are = s.moments_are ∙ b.moments_are;
}

by_go : (old mid new : Kept) (t u : Thread) (poll : Option ℕ) (go : Bool) (result : Result Answer Refusal) → Before old mid → DidAlone (crosses u poll (cross InJava go)) mid new u result → DidAlone (crosses u poll (cross InJava go)) old new t result
by_go old mid new t u poll true result b did = (did.0, did.1, stays old mid new b did.2)
by_go old mid new t u poll false result b did = (did.0, did.1, stays old mid new b did.2)

pub polled_before : (old mid new : Kept) (requests : Requests) (t u : Thread) (result : Result Answer Refusal) → u.state ≡ InJava → Before old mid → DidAlone (polls requests u) mid new u result → DidAlone (polls requests u) old new t result
polled_before old mid new requests t u result java b did =
    let go : Bool = is_none (poll_of requests u.name) in
    let P : State → Type 0 = λ s. DidAlone (crosses u (poll_of requests u.name) (cross s go)) mid new u result → DidAlone (crosses u (poll_of requests u.name) (cross s go)) old new t result in
    subst P (sym java) (λ d. by_go old mid new t u (poll_of requests u.name) go result b d) did
