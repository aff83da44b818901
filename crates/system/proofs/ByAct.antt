-- A plain act at a place, by the act of its thread.
use Rattle.std.proofs.Common.{◌≡◌, ◌≢◌, ◌∙◌, sym, ap, refl, subst, ℕ, Bool, true, false, eqb, List, ◌∷◌, Some, arith}
use Rattle.std.specs.Prelude.{slice_get, slice_set}
use Rattle.std.proofs.lemmas.Bool.Decides.{nat_tests}
use Rattle.frames.specs.declared.CodeId.{CodeId}
use Rattle.frames.specs.ImageView.{SameBag}
use Rattle.system.specs.declared.events.Act.{Act}
use Rattle.system.specs.declared.events.Act.TheVariants.{Begin, Change, End, Wake, Cross, Enter, Leave, Edge, ToVm, FromVm, ToNative, Block, Exit, Take, Finish, Clear, Hold, Release, Stack}
use Rattle.system.specs.declared.events.Event.{Event}
use Rattle.system.specs.declared.events.Event.TheVariants as event
use Rattle.system.specs.declared.answers.Answer.{Answer}
use Rattle.system.specs.declared.answers.Answer.TheVariants as answer
use Rattle.system.specs.declared.answers.Refusal.{Refusal}
use Rattle.system.specs.declared.thread.Thread.{Thread as Kept}
use Rattle.system.specs.declared.thread.Moments.{Moments}
use Rattle.system.specs.declared.keeping.Core.{Core}
use Rattle.system.specs.Verdict.{Verdict, refused}
use Rattle.system.specs.Operations.{Requests}
use Rattle.system.specs.Log.{Entry, moment, is_begin, is_end}
use Rattle.system.specs.Threads.{Thread, part}
use Rattle.system.specs.World.{World}
use Rattle.system.specs.Places.{Effect, becomes, here}
use Rattle.system.specs.Step.{outcome, lands}
use Rattle.system.specs.Runs.{after, answer_to}
use Rattle.system.specs.Marking.{SameThread}
use Rattle.system.specs.Kept.Acts.{reach_of, CameAbout, Becomes, marked_by, timed_by, serves}
use Rattle.system.specs.Stands.{Matches, SameAt, SameMoments, DoesIn}
use Rattle.system.proofs.Outcomes.{seated}
use Rattle.system.proofs.Logs.{IsQuiet, IsElsewhere}
use Rattle.system.proofs.AfterAct.{SameRest, seated_matches}

-- an act changes no number of the log, and no moment of other places
pub act_quiet : (p : ℕ) (act : Act) (a : Answer) → IsQuiet (record { event = event.At p act; answer = a })
act_quiet p act a = record { starts_none = refl; asks_none = refl; rounds_none = refl; invalidates_none = λ serial. refl; looks_none = λ serial place. refl }

differs : (p q : ℕ) → q ≢ p → eqb p q ≡ false
differs p q h = by (eqb p q) refl
  where
    by : (b : Bool) → eqb p q ≡ b → eqb p q ≡ false
    by true e = absurd (h (grind (arith, nat_tests)))
    by false e = e

begin_other : (p q : ℕ) (act : Act) → q ≢ p → is_begin q (event.At p act) ≡ false
begin_other p q Begin h = differs p q h
begin_other p q Change h = refl
begin_other p q End h = refl
begin_other p q Wake h = refl
begin_other p q Cross h = refl
begin_other p q (Enter m c) h = refl
begin_other p q Leave h = refl
begin_other p q Edge h = refl
begin_other p q ToVm h = refl
begin_other p q FromVm h = refl
begin_other p q ToNative h = refl
begin_other p q Block h = refl
begin_other p q Exit h = refl
begin_other p q Take h = refl
begin_other p q Finish h = refl
begin_other p q Clear h = refl
begin_other p q Hold h = refl
begin_other p q Release h = refl
begin_other p q Stack h = refl

end_other : (p q : ℕ) (act : Act) → q ≢ p → is_end q (event.At p act) ≡ false
end_other p q Begin h = refl
end_other p q Change h = refl
end_other p q End h = differs p q h
end_other p q Wake h = refl
end_other p q Cross h = refl
end_other p q (Enter m c) h = refl
end_other p q Leave h = refl
end_other p q Edge h = refl
end_other p q ToVm h = refl
end_other p q FromVm h = refl
end_other p q ToNative h = refl
end_other p q Block h = refl
end_other p q Exit h = refl
end_other p q Take h = refl
end_other p q Finish h = refl
end_other p q Clear h = refl
end_other p q Hold h = refl
end_other p q Release h = refl
end_other p q Stack h = refl

pub act_elsewhere : (p q : ℕ) (act : Act) (a : Answer) → q ≢ p → IsElsewhere q (record { event = event.At p act; answer = a })
act_elsewhere p q act a h = record { starts_not = refl; begins_not = begin_other p q act h; ends_not = end_other p q act h }

-- the moments of the thread at the place
own : (p : ℕ) → eqb p p ≡ true
own p = grind (arith, nat_tests)

pub timed : (p now : ℕ) (act : Act) (a : Answer) (m : Moments) (log : List Entry) → now ≡ moment log → SameMoments m log p → SameMoments (timed_by act now m) (record { event = event.At p act; answer = a } ∷ log) p
timed p now Begin a m log is h = record { begun_is = rw (own p) is; stored_is = h.stored_is }
timed p now End a m log is h = record { begun_is = h.begun_is; stored_is = rw (own p) h.begun_is }
timed p now Change a m log is h = record { begun_is = h.begun_is; stored_is = h.stored_is }
timed p now Wake a m log is h = record { begun_is = h.begun_is; stored_is = h.stored_is }
timed p now Cross a m log is h = record { begun_is = h.begun_is; stored_is = h.stored_is }
timed p now (Enter me c) a m log is h = record { begun_is = h.begun_is; stored_is = h.stored_is }
timed p now Leave a m log is h = record { begun_is = h.begun_is; stored_is = h.stored_is }
timed p now Edge a m log is h = record { begun_is = h.begun_is; stored_is = h.stored_is }
timed p now ToVm a m log is h = record { begun_is = h.begun_is; stored_is = h.stored_is }
timed p now FromVm a m log is h = record { begun_is = h.begun_is; stored_is = h.stored_is }
timed p now ToNative a m log is h = record { begun_is = h.begun_is; stored_is = h.stored_is }
timed p now Block a m log is h = record { begun_is = h.begun_is; stored_is = h.stored_is }
timed p now Exit a m log is h = record { begun_is = h.begun_is; stored_is = h.stored_is }
timed p now Take a m log is h = record { begun_is = h.begun_is; stored_is = h.stored_is }
timed p now Finish a m log is h = record { begun_is = h.begun_is; stored_is = h.stored_is }
timed p now Clear a m log is h = record { begun_is = h.begun_is; stored_is = h.stored_is }
timed p now Hold a m log is h = record { begun_is = h.begun_is; stored_is = h.stored_is }
timed p now Release a m log is h = record { begun_is = h.begun_is; stored_is = h.stored_is }
timed p now Stack a m log is h = record { begun_is = h.begun_is; stored_is = h.stored_is }

-- a refusal leaves the system unchanged
pub same_matches : (s new : Core) (w : World) → SameRest s new → new.places.items ≡ s.places.items → Matches s w → Matches new w
same_matches s new w rest places m = record {
  slots = ap (λ tb. tb.slots) rest.table ∙ m.slots;
  methods = ap (λ tb. tb.methods) rest.table ∙ m.methods;
  codes = ap (λ tb. tb.codes) rest.table ∙ m.codes;
  places = rw places m.places;
  records = rw rest.records m.records;
  names = rest.names ∙ m.names;
  moment_is = rest.moment ∙ m.moment_is;
  numbers = ap (λ r. r.numbers) rest.requests ∙ m.numbers;
  waiting = rw rest.requests m.waiting;
  opened = rw rest.requests m.opened;
  index = rw rest.index m.index;
}

pub refused_in : (s new : Core) (w : World) (e : Event) (r : Refusal) (said : Answer) → SameRest s new → new.places.items ≡ s.places.items → Matches s w → outcome w e ≡ refused r → said ≡ answer.Refused r → DoesIn e said new w
refused_in s new w e r said rest places m is says = record {
  answer = says ∙ ap Rattle.system.specs.Runs.answer_of (sym is);
  matches = subst (λ v. Matches new (Rattle.system.specs.Runs.world_of w e v)) (sym is) (same_matches s new w rest places m);
}

-- the outcome of an act at a place
pub done_at : (w : World) (p : ℕ) (act : Act) (t : Thread) (v : Verdict Effect) → slice_get w.places p ≡ Some (Some t) → here w act t ≡ v → outcome w (event.At p act) ≡ lands w p v
done_at w p act t v there is = rw there (ap (lands w p) is)

marks_stay : (act : Act) (n : ℕ) (requests : Requests) (m : Rattle.system.specs.declared.thread.Marks.Marks) (u : Thread) (kept : Kept) (t : Thread) → CameAbout (reach_of act n requests) (becomes u) kept t → (marked_by act n m ≡ m) × SameThread kept u
marks_stay Begin n requests m u kept t h = (refl, h)
marks_stay Change n requests m u kept t h = (refl, h)
marks_stay End n requests m u kept t h = (refl, h)
marks_stay Wake n requests m u kept t h = (refl, h)
marks_stay Cross n requests m u kept t h = (refl, h)
marks_stay (Enter me c) n requests m u kept t h = (refl, h)
marks_stay Leave n requests m u kept t h = (refl, h)
marks_stay Edge n requests m u kept t h = (refl, h)
marks_stay ToVm n requests m u kept t h = (refl, h)
marks_stay FromVm n requests m u kept t h = (refl, h)
marks_stay ToNative n requests m u kept t h = (refl, h)
marks_stay Block n requests m u kept t h = (refl, h)
marks_stay Exit n requests m u kept t h = (refl, h)
marks_stay Take n requests m u kept t h = (refl, h)
marks_stay Finish n requests m u kept t h = absurd h
marks_stay Clear n requests m u kept t h = absurd h
marks_stay Hold n requests m u kept t h = (refl, h)
marks_stay Release n requests m u kept t h = (refl, h)
marks_stay Stack n requests m u kept t h = (refl, h)

-- the thread's published counts are unchanged if the image's counts are
parts_stay : (kept after : Kept) (t u : Thread) → SameThread kept t → SameThread after u → SameBag after.image.counted kept.image.counted → (code : CodeId) → part code u ≡ part code t
parts_stay kept after t u same now bag code = sym (now.image.counted code) ∙ (bag code ∙ same.image.counted code)

pub became : (s new : Core) (w : World) (p : ℕ) (act : Act) (kept after : Kept) (t u : Thread) (a : Answer) → Matches s w → SameRest s new → new.places.items ≡ slice_set s.places.items p (Some after) → slice_get w.places p ≡ Some (Some t) → SameAt w p kept t
    → CameAbout (reach_of act (serves act s.requests.opens kept) w.requests) (becomes u) after t → Becomes (marked_by act (serves act s.requests.opens kept) kept.marks) (timed_by act s.moment kept.moments) kept after → Matches new (seated w p (Some u) (event.At p act) a)
became s new w p act kept after t u a m rest places there same lands_ becomes_ =
    let both = marks_stay act (serves act s.requests.opens kept) w.requests kept.marks u after t lands_ in
    let name : u.name ≡ t.name = sym both.1.name ∙ (becomes_.name ∙ same.thread.name) in
    let marks_is : after.marks ≡ kept.marks = becomes_.marks_are ∙ both.0 in
    seated_matches s new w p kept after t u (event.At p act) a m (record {
      rest = rest;
      places = places;
      there = there;
      thread = both.1;
      name = name;
      marks = rw (marks_is, name) same.marks;
      moments = rw becomes_.moments_are (timed p s.moment act a kept.moments w.log m.moment_is same.moments);
      parts = parts_stay kept after t u same.thread both.1 becomes_.counted;
      quiet = act_quiet p act a;
      elsewhere = λ q differ. act_elsewhere p q act a differ;
    })
