-- The body at the index is the held one of the place's thread, served or not.
use Rattle.std.proofs.Common.{◌≡◌, ◌∙◌, ℕ, Some, None, sym, subst}
use Rattle.std.specs.Prelude.{Result, Ok, Err, IfOk, IfErr, OnErr, slice_get, slice_set}
use Rattle.frames.specs.ImageView.{ImageView}
use Rattle.bodies.specs.Bodies.{BodyView}
use Rattle.operations.specs.declared.Ask.{Ask}
use Rattle.desk.specs.Finishing.{FinishSeen}
use Rattle.desk.specs.Machine.{State}
use Rattle.berths.specs.Berths.{Berthing}
use Rattle.thread_list.specs.Moves.{IsAnswered}
use Rattle.stopped_threads.specs.Held.{StandsAt}
use Rattle.stopped_threads.specs.Holding.{Holding}
use Rattle.stopped_threads.specs.Refused.{In, IsServeFaultBy}
use Rattle.stopped_threads.specs.Serves.{IsLeftUnserved, not_served}
use Rattle.stopped_threads.specs.declared.serving.Unserved.{Unserved}
use Rattle.coordinator_core.specs.Done.{ServesBy, IsUnserved, Leaves}
use Rattle.stopped_threads.proofs.Each.{some_is}

here_is : (c : Holding) (place index : ℕ) (stood body : BodyView) → StandsAt c.held index place stood → slice_get c.held index ≡ Some body → StandsAt c.held index place body
here_is c place index stood body stands here =
    let same = some_is stood body (sym stands.0 ∙ here) in
    (here, subst (λ (b : BodyView). b.seat.place ≡ place) same stands.1)

pub serves : (s : State) (old new : Holding) (place index number : ℕ) (finish : FinishSeen) (stood body after : BodyView)
    → StandsAt old.held index place stood → IsServeFaultBy (In s) old index place None → slice_get old.held index ≡ Some body → new ≡ record old { held = slice_set old.held index after }
    → IsAnswered number body finish after → ServesBy (In s) old new place number finish
serves s old new place index number finish stood body after stands fault here is answered =
    (index, body, after, here_is old place index stood body stands here, fault, is, answered)

pub leaves : {J N : Type 0} (number whom : J → ℕ) (asks : J → Ask) (may_answer : J → ImageView → ℕ → Type 0) (old new : Holding) (place index : ℕ) (room left : Berthing N) (why : Unserved) (stood body after : BodyView)
    → StandsAt old.held index place stood → slice_get old.held index ≡ Some body → new ≡ record old { held = slice_set old.held index after }
    → IsLeftUnserved number whom asks may_answer body room why after left → Leaves number whom asks may_answer old new place room left why
leaves number whom asks may_answer old new place index room left why stood body after stands here is unserved =
    (index, body, after, here_is old place index stood body stands here, is, unserved)

pub unserved : {N : Type 0} (s : State) (old : Holding) (place index : ℕ) (room : Berthing N) (why : Unserved) (stood body : BodyView)
    → StandsAt old.held index place stood → IsServeFaultBy (In s) old index place None → slice_get old.held index ≡ Some body → not_served room s body.name why → IsUnserved s old place room why
unserved s old place index room why stood body stands fault here not =
    (index, body, here_is old place index stood body stands here, fault, not)

pub each_ok : {A E : Type 0} {P Q : A → Type 0} → ((a : A) → P a → Q a) → (r : Result A E) → IfOk r P → IfOk r Q
each_ok f (Ok a) p = f a p
each_ok f (Err e) p = p

pub each_err : {A E P : Type 0} {Q R : E → Type 0} → ((e : E) → Q e → P → R e) → (r : Result A E) → IfErr r Q → OnErr r P → IfErr r R
each_err f (Ok a) q p = q
each_err f (Err e) q p = f e q p

pub each_fault : {A E : Type 0} {P Q : E → Type 0} → ((e : E) → P e → Q e) → (r : Result A E) → IfErr r P → IfErr r Q
each_fault f (Ok a) p = p
each_fault f (Err e) p = f e p
