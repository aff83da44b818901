-- What a turn of a thread that has stopped comes to, where a job came out with its body; and what is known of a place that was given up,
-- or of a body that came back, said of the thread.
use Rattle.std.proofs.Common.{◌≡◌, ◌<◌, ◌∙◌, ℕ, List, [], ◌∷◌, length, Option, Some, None, IfSome, IfNone, refl, sym, ap, subst, arith}
use Rattle.frames.specs.declared.Frame.{Frame}
use Rattle.frames.specs.ImageView.{ImageView, IsSettled}
use Rattle.thread_state.specs.PollRule.{exchanged}
use Rattle.bodies.specs.Bodies.{BodyView, SpareView, IsPublished}
use Rattle.operations.specs.declared.Ask.{Ask}
use Rattle.operations.specs.Asks.{reply}
use Rattle.desk.specs.declared.entries.Entry.{Entry}
use Rattle.desk.specs.Finishing.{FinishSeen}
use Rattle.berths.specs.Berths.{Moved, moved, Outed}
use Rattle.thread_list.specs.Moves.{IsTurn, IsCleared, IsVacated, IsKept, HasStopped, IsFirst}
use Rattle.thread_list.specs.Refused.{HasNoFrame}
use Rattle.berths.specs.declared.room.BodyAct.TheVariants.{Given, Served, MovedIn, Vacated}

pub turned : (place name n whom : ℕ) (ask : Ask) (out : Moved) (r : FinishSeen) (body published after : BodyView) (found : ℕ)
    → out ≡ moved body (Served (Some (record { number = n; ask = ask }))) → body.name ≡ name → body.seat.place ≡ place → 0 < n → IsPublished body published
    → r.stands.entry ≡ Entry.Finish n whom (reply ask published.image.frames) → whom ≡ name → r.body ≡ published → r.ask ≡ ask
    → (after.name ≡ published.name) × (after.image ≡ published.image) × (after.seat ≡ published.seat) → after.poller ≡ exchanged published.poller n found
    → IsTurn place name out (Some r) after
turned place name n whom ask out r body published after found is named placed some p entry for_it seen asked same cleared =
    let body_is : out.body ≡ body = ap (λ (m : Moved). m.body) is in
    let frames : published.image.frames ≡ out.body.image.frames = p.frames_stay ∙ sym (ap (λ (b : BodyView). b.image.frames) body_is) in
    let named' : out.body.name ≡ name = ap (λ (b : BodyView). b.name) body_is ∙ named in (
      record { number = n; ask = ask },
      some,
      (ap (λ (m : Moved). m.act) is, named', ap (λ (b : BodyView). b.seat.place) body_is ∙ placed),
      asked,
      record {
        published = subst (λ (b : BodyView). IsPublished out.body b) (sym seen) (subst (λ (b : BodyView). IsPublished b published) (sym body_is) p);
        entered = entry ∙ (λ k. Entry.Finish n ((for_it ∙ sym named') k) (reply (sym asked k) (frames k)));
        cleared = subst (λ (b : BodyView). IsCleared n b after) (sym seen) ((λ ne. (found, cleared)), same.0, same.1, same.2);
      },
    )

pub vacates : (place name : ℕ) (m : Moved) (body : BodyView) → m ≡ moved body Vacated → body.name ≡ name → body.seat.place ≡ place
    → body.image.frames ≡ [] → IsSettled body.image → IsVacated place name m
vacates place name m body is named placed empty settled =
    let body_is : m.body ≡ body = ap (λ (v : Moved). v.body) is in (
      (ap (λ (v : Moved). v.act) is, ap (λ (b : BodyView). b.name) body_is ∙ named, ap (λ (b : BodyView). b.seat.place) body_is ∙ placed),
      ap (λ (b : BodyView). b.image.frames) body_is ∙ empty,
      subst (λ (b : BodyView). IsSettled b.image) (sym body_is) settled,
    )

pub vacated_of : (place name place' name' : ℕ) (m m' : Moved) → place' ≡ place → name' ≡ name → m ≡ m' → IsVacated place' name' m' → IsVacated place name m
vacated_of place name place' name' m m' p n is v =
    subst (IsVacated place name) (sym is) (subst (λ x. IsVacated place x m') n (subst (λ x. IsVacated x name' m') p v))

pub kept_of : (place name place' name' : ℕ) (m : Moved) (b : Option BodyView) → place' ≡ place → name' ≡ name → IsKept place' name' m b → IsKept place name m b
kept_of place name place' name' m b p n v = subst (λ x. IsKept place x m b) n (subst (λ x. IsKept x name' m b) p v)

none_left : (fs : List Frame) → length fs ≡ 0 → fs ≡ []
none_left [] e = refl
none_left (f ∷ fs) e = absurd (omega (arith, e))

pub no_frame : (o : Option BodyView) (b : BodyView) (n : ℕ) → o ≡ Some b → n ≡ length b.image.frames → n ≡ 0 → HasNoFrame o
no_frame o b n is deep zero = subst HasNoFrame (sym is) (none_left b.image.frames (sym deep ∙ zero))

-- Of stops behind one another the first turn of all stays, and that of the first stop began with a publication of the body as it was.
pub first_stays : {A : Type 0} (earlier : Option A) (first : A → Outed) (body now published : BodyView) (here new : Outed)
    → IfNone earlier (now ≡ body) → IfSome earlier (λ t. HasStopped (Some body) (first t)) → IfSome earlier (λ t. new ≡ first t) → IfNone earlier (new ≡ here)
    → IsPublished now published → here.given ≡ moved published Given → HasStopped (Some body) new
first_stays None first body now published here new same stopped stays alone p given =
    (published, subst (λ (b : BodyView). IsPublished b published) same p, ap (λ (o : Outed). o.given) alone ∙ given)
first_stays (Some t) first body now published here new same stopped stays alone p given = subst (HasStopped (Some body)) (sym stays) stopped

pub stopped_of : {A : Type 0} (served served' : Option A) (first : A → Outed) (b : Option BodyView) (body : BodyView)
    → served ≡ served' → b ≡ Some body → IfSome served' (λ t. HasStopped (Some body) (first t)) → IfSome served (λ t. HasStopped b (first t))
stopped_of served served' first b body same is stopped =
    subst (λ o. IfSome o (λ t. HasStopped b (first t))) (sym same) (subst (λ x. IfSome served' (λ t. HasStopped x (first t))) (sym is) stopped)

-- The first body of a thread, made in the seat that came out of its place, was published once and went into its berth.
pub first_of_seat : (name : ℕ) (seat : SpareView) (image : ImageView) (body published : BodyView) (moved_in : Moved)
    → image.frames ≡ [] → body.name ≡ name → body.image ≡ image → body.seat ≡ seat.seat → body.poller ≡ seat.poller
    → IsPublished body published → moved_in ≡ moved published MovedIn → IsFirst name seat moved_in.body
first_of_seat name seat image body published moved_in empty named imaged seated polled p is = record {
  image = image;
  empty = empty;
  published = subst (λ (b : BodyView). IsPublished (record { name = name; image = image; seat = seat.seat; poller = seat.poller }) b) (sym (ap (λ (m : Moved). m.body) is))
      (subst (λ (b : BodyView). IsPublished b published) (λ k. record { name = named k; image = imaged k; seat = seated k; poller = polled k }) p);
}
