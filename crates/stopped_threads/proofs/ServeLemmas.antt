-- What serves keep of a body, and that a serve behind others is one of them.
use Rattle.std.proofs.Common.{◌≡◌, ◌≢◌, ◌⊎◌, ◌∙◌, ℕ, false, List, [], ◌∷◌, inl, inr, refl, ap, sym, subst}
use Rattle.frames.specs.ImageView.{ImageView}
use Rattle.operations.specs.declared.Ask.{Ask}
use Rattle.bodies.specs.Bodies.{BodyView}
use Rattle.desk.specs.Machine.{Stands}
use Rattle.berths.specs.Berths.{Acted, Moved, acted, moved, Went}
use Rattle.berths.specs.declared.room.BodyAct.TheVariants.{Held, Released}
use Rattle.berths.specs.declared.room.BerthAct.{BerthAct}
use Rattle.berths.specs.declared.room.BerthAct.TheVariants.{Absent}
use Rattle.thread_list.specs.Moves.{IsOperated}
use Rattle.stopped_threads.specs.Serves.{IsServe, Serve, AreServes, IsServed}
use Rattle.stopped_threads.specs.Brought.{IsBrought}
use Rattle.stopped_threads.proofs.Each.{operated_keeps, operated_frames}

operated_of : {J : Type 0} (number whom : J → ℕ) (asks : J → Ask) (may_answer : J → ImageView → ℕ → Type 0) (job : J) (a b : BodyView) (r : Stands) → IsServe number whom asks may_answer job a b r → IsOperated (number job) a b
operated_of number whom asks may_answer job a b r s = (s.3.0, s.3.1, s.3.3)

pub serve_keeps : {J : Type 0} (number whom : J → ℕ) (asks : J → Ask) (may_answer : J → ImageView → ℕ → Type 0) (job : J) (a b : BodyView) (r : Stands) → IsServe number whom asks may_answer job a b r
    → (b.name ≡ a.name) × (b.seat.place ≡ a.seat.place) × (a.seat.stored ≢ 0 → b.seat.stored ≢ 0)
serve_keeps number whom asks may_answer job a b r s = operated_keeps (number job) a b (operated_of number whom asks may_answer job a b r s)

serve_frames : {J : Type 0} (number whom : J → ℕ) (asks : J → Ask) (may_answer : J → ImageView → ℕ → Type 0) (job : J) (a b : BodyView) (r : Stands) → IsServe number whom asks may_answer job a b r → b.image.frames ≡ a.image.frames
serve_frames number whom asks may_answer job a b r s = operated_frames (number job) a b (operated_of number whom asks may_answer job a b r s)

serves_keep : {J : Type 0} (number whom : J → ℕ) (asks : J → Ask) (may_answer : J → ImageView → ℕ → Type 0) (ss : List (Serve J)) (a b : BodyView) → AreServes number whom asks may_answer ss a b
    → (b.name ≡ a.name) × (b.seat.place ≡ a.seat.place) × (b.image.frames ≡ a.image.frames)
serves_keep number whom asks may_answer [] a b e = (ap (λ (x : BodyView). x.name) e, ap (λ (x : BodyView). x.seat.place) e, ap (λ (x : BodyView). x.image.frames) e)
serves_keep number whom asks may_answer (s ∷ ss) a b h =
    let m = serves_keep number whom asks may_answer ss a s.before h.0 in
    let k = serve_keeps number whom asks may_answer s.job s.before b s.done h.1 in
    (k.0 ∙ m.0, k.1 ∙ m.1, serve_frames number whom asks may_answer s.job s.before b s.done h.1 ∙ m.2)

pub served_once : {J : Type 0} (number whom : J → ℕ) (asks : J → Ask) (may_answer : J → ImageView → ℕ → Type 0) (job : J) (a b : BodyView) (r : Stands) → IsServe number whom asks may_answer job a b r → IsServed number whom asks may_answer a b r r
served_once number whom asks may_answer job a b r s = (record { job = job; before = a; done = r }, [], (refl, s), refl, refl)

pub served_more : {J : Type 0} (number whom : J → ℕ) (asks : J → Ask) (may_answer : J → ImageView → ℕ → Type 0) (job : J) (came a b : BodyView) (first last r : Stands) → IsServed number whom asks may_answer came a first last → IsServe number whom asks may_answer job a b r → IsServed number whom asks may_answer came b first r
served_more number whom asks may_answer job came a b first last r h s = (record { job = job; before = a; done = r }, h.0 ∷ h.1, (h.2, s), h.3, refl)

pub brought : {J : Type 0} (number whom : J → ℕ) (asks : J → Ask) (may_answer : J → ImageView → ℕ → Type 0) (out : Moved) (body : BodyView) (first last : Stands) (back : Moved) → IsServed number whom asks may_answer out.body body first last → back ≡ moved body (Released false)
    → IsBrought number whom asks may_answer (record { out = out; first = first; last = last; back = back })
brought number whom asks may_answer out body first last back h is =
    let body_is : back.body ≡ body = ap (λ (m : Moved). m.body) is in
    let kept = serves_keep number whom asks may_answer (h.0 ∷ h.1) out.body body h.2 in (
      subst (λ b. IsServed number whom asks may_answer out.body b first last) (sym body_is) h,
      (ap (λ (m : Moved). m.act) is, ap (λ (b : BodyView). b.name) body_is ∙ kept.0, ap (λ (b : BodyView). b.seat.place) body_is ∙ kept.1),
      ap (λ (b : BodyView). b.image.frames) body_is ∙ kept.2,
    )

-- a body that came out and was served
pub out_and_served : {J : Type 0} (number whom : J → ℕ) (asks : J → Ask) (may_answer : J → ImageView → ℕ → Type 0) (job : J) (place name : ℕ) (out : Moved) (body after : BodyView) (r : Stands) → out ≡ moved body Held → body.name ≡ name → body.seat.place ≡ place → IsServe number whom asks may_answer job body after r
    → Went place name Held out × IsServe number whom asks may_answer job out.body after r
out_and_served number whom asks may_answer job place name out body after r is named placed s =
    let body_is : out.body ≡ body = ap (λ (m : Moved). m.body) is in (
      (ap (λ (m : Moved). m.act) is, ap (λ (b : BodyView). b.name) body_is ∙ named, ap (λ (b : BodyView). b.seat.place) body_is ∙ placed),
      subst (λ b. IsServe number whom asks may_answer job b after r) (sym body_is) s,
    )

-- the receipt of a body that was left is of its act
pub left_said : (r : Acted) (place name : ℕ) (act : BerthAct) → (r ≡ acted place name Absent) ⊎ (r ≡ acted place name act) → r ≡ acted place name r.act
left_said r place name act (inl e) = e ∙ ap (acted place name) (sym (ap (λ (x : Acted). x.act) e))
left_said r place name act (inr e) = e ∙ ap (acted place name) (sym (ap (λ (x : Acted). x.act) e))
