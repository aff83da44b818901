-- A plain act at a place follows the definitions.
use Rattle.std.proofs.Common.{◌++◌, ◌≡◌, ◌∙◌, sym, ap, refl, subst, ℕ, zero, suc, not, ◌||◌, List, [], ◌∷◌, Option, Some, None, Result, length, arith}
use Rattle.std.specs.Prelude.{slice_get, slice_set, is_some}
use Rattle.thread_state.specs.declared.State.TheVariants.{Vacant}
use Rattle.method_table.specs.TableView.{TableView}
use Rattle.system.specs.declared.events.Act.{Act}
use Rattle.system.specs.declared.events.Act.TheVariants.{Begin, Change, End, Wake, Cross, Enter, Leave, Edge, ToVm, FromVm, ToNative, Block, Exit, Take, Finish, Clear, Hold, Release, Stack}
use Rattle.system.specs.declared.events.Event.{Event}
use Rattle.system.specs.declared.events.Event.TheVariants as event
use Rattle.system.specs.declared.answers.Answer.{Answer}
use Rattle.system.specs.declared.answers.Refusal.{Refusal}
use Rattle.system.specs.declared.answers.Refusal.TheVariants.{NoSuchPlace, Illegal, Publishing}
use Rattle.system.specs.declared.thread.Thread.{Thread as Kept}
use Rattle.system.specs.declared.keeping.Core.{Core}
use Rattle.system.specs.Verdict.{Verdict, refused, accepted}
use Rattle.system.specs.Operations.{Requests}
use Rattle.system.specs.Threads.{Thread, is_publishing}
use Rattle.system.specs.World.{World, found}
use Rattle.system.specs.Places.{Effect, becomes, leaves, marks, here, does, is_lawful, may_while_publishing}
use Rattle.system.specs.Step.{outcome, lands}
use Rattle.system.specs.Runs.{entries, answer_of, world_of}
use Rattle.system.specs.Facts.{IsSound}
use Rattle.system.specs.Kept.Acts.{Lent, Did, Reach, thread_alone, finishes, clears, reach_of, CameAbout, Becomes, marked_by, timed_by, serves}
use Rattle.system.specs.Kept.Places.{DidAt, DidFound, ActedAt, answer_here}
use Rattle.system.specs.Stands.{Matches, SamePlace, SameAt, DoesIn, Does, held_at}
use Rattle.system.proofs.Outcomes.{asked}
use Rattle.system.proofs.Found.{put_back}
use Rattle.system.proofs.KeptOfThread.{is_here}
use Rattle.system.proofs.AfterAct.{SameRest, length_set}
use Rattle.system.proofs.ByAct.{became, refused_in}
use Rattle.system.proofs.FinishAndClear.{finished, cleared}
use Rattle.system.proofs.AddedMarks.{unless_yes}

-- the state of a place in the system and in the world
pub data AtPlace (s : Core) (w : World) (p : ℕ) (o : Option (Option Kept)) : Type 0 where
  nowhere : o ≡ None → slice_get w.places p ≡ None → AtPlace s w p o
  vacant : o ≡ Some None → slice_get w.places p ≡ Some None → AtPlace s w p o
  seat : (kept : Kept) (t : Thread) → o ≡ Some (Some kept) → slice_get w.places p ≡ Some (Some t) → SameAt w p kept t → AtPlace s w p o

by_both : (s : Core) (w : World) (p : ℕ) (o : Option (Option Kept)) (x : Option (Option Thread)) → slice_get w.places p ≡ x → is_some o ≡ is_some x → SamePlace w p (held_at o) (found x) → AtPlace s w p o
by_both s w p None None e both same = nowhere refl e
by_both s w p (Some None) (Some None) e both same = vacant refl e
by_both s w p (Some (Some kept)) (Some (Some t)) e both same = seat kept t refl e same
by_both s w p None (Some x) e both same = cc
by_both s w p (Some o) None e both same = cc
by_both s w p (Some None) (Some (Some t)) e both same = absurd same
by_both s w p (Some (Some kept)) (Some None) e both same = absurd same

same_ends : (ks : List (Option Kept)) (ts : List (Option Thread)) (p : ℕ) → length ks ≡ length ts → is_some (slice_get ks p) ≡ is_some (slice_get ts p)
same_ends [] [] p e = refl
same_ends [] (t ∷ ts) p e = absurd (omega arith)
same_ends (k ∷ ks) [] p e = absurd (omega arith)
same_ends (k ∷ ks) (t ∷ ts) zero e = refl
same_ends (k ∷ ks) (t ∷ ts) (suc p) e = same_ends ks ts p (omega arith)

pub at_place : (s : Core) (w : World) (p : ℕ) → Matches s w → AtPlace s w p (slice_get s.places.items p)
at_place s w p m = by_both s w p (slice_get s.places.items p) (slice_get w.places p) refl (same_ends s.places.items w.places p m.places.lengths) (m.places.each p)

-- an accepted act passed the common tests
pub here_yes : (w : World) (act : Act) (t : Thread) (e : Effect) (a : Answer) → here w act t ≡ accepted e a → does w act t ≡ accepted e a
here_yes w act t e a h =
    let one = unless_yes (not (is_publishing t) || may_while_publishing act) Publishing _ e a h in
    let two = unless_yes (is_lawful act t) (Illegal t.state) _ e a one.1 in
    two.1

-- after an accepted act
pub accepted_in : (new : Core) (w : World) (e : Event) (v : World) (a said : Answer) → outcome w e ≡ accepted v a → said ≡ a → Matches new (record v { log = entries w e a ++ w.log }) → DoesIn e said new w
accepted_in new w e v a said is says m = record {
  answer = says ∙ ap answer_of (sym is);
  matches = subst (λ x. Matches new (world_of w e x)) (sym is) m;
}

-- only Finish and Clear add marks
marked : (s new : Core) (w : World) (p : ℕ) (act : Act) (kept after_ : Kept) (t : Thread) (r : Requests) (a : Answer) → Matches s w → IsSound w → SameRest s new → new.places.items ≡ slice_set s.places.items p (Some after_) → slice_get w.places p ≡ Some (Some t) → SameAt w p kept t
    → does w act t ≡ accepted (marks r) a → CameAbout (reach_of act (serves act s.requests.opens kept) w.requests) (marks r) after_ t → Becomes (marked_by act (serves act s.requests.opens kept) kept.marks) (timed_by act s.moment kept.moments) kept after_
    → Matches new (asked w r (event.At p act) a)
marked s new w p Finish kept after_ t r a m sound rest places there same done lands_ becomes_ = finished s new w p kept after_ t r a m sound rest places there same done lands_ becomes_
marked s new w p Clear kept after_ t r a m sound rest places there same done lands_ becomes_ = cleared s new w p kept after_ t r a m sound rest places there same done lands_ becomes_
marked s new w p Begin kept after_ t r a m sound rest places there same done lands_ becomes_ = absurd lands_
marked s new w p Change kept after_ t r a m sound rest places there same done lands_ becomes_ = absurd lands_
marked s new w p End kept after_ t r a m sound rest places there same done lands_ becomes_ = absurd lands_
marked s new w p Wake kept after_ t r a m sound rest places there same done lands_ becomes_ = absurd lands_
marked s new w p Cross kept after_ t r a m sound rest places there same done lands_ becomes_ = absurd lands_
marked s new w p (Enter me c) kept after_ t r a m sound rest places there same done lands_ becomes_ = absurd lands_
marked s new w p Leave kept after_ t r a m sound rest places there same done lands_ becomes_ = absurd lands_
marked s new w p Edge kept after_ t r a m sound rest places there same done lands_ becomes_ = absurd lands_
marked s new w p ToVm kept after_ t r a m sound rest places there same done lands_ becomes_ = absurd lands_
marked s new w p FromVm kept after_ t r a m sound rest places there same done lands_ becomes_ = absurd lands_
marked s new w p ToNative kept after_ t r a m sound rest places there same done lands_ becomes_ = absurd lands_
marked s new w p Block kept after_ t r a m sound rest places there same done lands_ becomes_ = absurd lands_
marked s new w p Exit kept after_ t r a m sound rest places there same done lands_ becomes_ = absurd lands_
marked s new w p Take kept after_ t r a m sound rest places there same done lands_ becomes_ = absurd lands_
marked s new w p Hold kept after_ t r a m sound rest places there same done lands_ becomes_ = absurd lands_
marked s new w p Release kept after_ t r a m sound rest places there same done lands_ becomes_ = absurd lands_
marked s new w p Stack kept after_ t r a m sound rest places there same done lands_ becomes_ = absurd lands_

nobody_leaves : (reach : Reach) (kept : Kept) (t : Thread) → CameAbout reach leaves kept t → ⊥
nobody_leaves thread_alone kept t h = h
nobody_leaves (finishes n q) kept t h = h
nobody_leaves (clears n q) kept t h = h

-- The state that the system lends a thread for an act.
abbrev lent_by : Core → Act → Lent
lent_by s act = record { act = act; opens = s.requests.opens; now = s.moment }

-- by the verdict
by_verdict : (s new : Core) (w : World) (p : ℕ) (act : Act) (kept after_ : Kept) (t : Thread) (result : Result Answer Refusal) (said : Answer) (v : Verdict Effect) → Matches s w → IsSound w → SameRest s new → new.places.items ≡ slice_set s.places.items p (Some after_) → slice_get s.places.items p ≡ Some (Some kept) → slice_get w.places p ≡ Some (Some t) → SameAt w p kept t
    → here w act t ≡ v → outcome w (event.At p act) ≡ lands w p v → Did (lent_by s act) w.requests v kept after_ t result → said ≡ answer_here result → DoesIn (event.At p act) said new w
by_verdict s new w p act kept after_ t result said (refused r) m sound rest places at_s there same is goes did says =
    let back : new.places.items ≡ s.places.items = places ∙ (ap (λ k. slice_set s.places.items p (Some k)) did.1 ∙ put_back s.places.items p (Some kept) at_s) in
    refused_in s new w (event.At p act) r said rest back m goes (says ∙ ap answer_here did.0)
by_verdict s new w p act kept after_ t result said (accepted (becomes u) a) m sound rest places at_s there same is goes did says =
    accepted_in new w (event.At p act) _ a said goes (says ∙ ap answer_here did.0) (became s new w p act kept after_ t u a m rest places there same did.1 did.2)
by_verdict s new w p act kept after_ t result said (accepted leaves a) m sound rest places at_s there same is goes did says = absurd (nobody_leaves (reach_of act (serves act s.requests.opens kept) w.requests) after_ t did.1)
by_verdict s new w p act kept after_ t result said (accepted (marks r) a) m sound rest places at_s there same is goes did says =
    accepted_in new w (event.At p act) _ a said goes (says ∙ ap answer_here did.0) (marked s new w p act kept after_ t r a m sound rest places there same (here_yes w act t (marks r) a is) did.1 did.2)

pub acted : (s new : Core) (p : ℕ) (act : Act) (said : Answer) (w : World) → Matches s w → IsSound w → SameRest s new → DidAt (lent_by s act) s.table p s.places.items new.places.items said → DoesIn (event.At p act) said new w
acted s new p act said w m sound rest did = elim (at_place s w p m) [
  | nowhere e x ↦ (
      let d = rw e at did in
      refused_in s new w (event.At p act) NoSuchPlace said rest d.1 m (rw x refl) d.0)
  | vacant e x ↦ (
      let d = rw e at did in
      refused_in s new w (event.At p act) (Illegal Vacant) said rest d.1 m (rw x refl) d.0)
  | seat kept t e x same ↦ (
      let d : ActedAt (lent_by s act) s.table p kept s.places.items new.places.items said = rw e at did in
      let k : Kept = d.after in
      by_verdict s new w p act kept k t d.result said (here w act t) m sound rest d.places e x same refl (rw x refl) (d.did w t m.codes m.methods (is_here s w p kept t m sound x same)) d.said)
]

found_length : (lent : Lent) (table : TableView) (p : ℕ) (o : Option (Option Kept)) (old new : List (Option Kept)) (said : Answer) → DidFound lent table p o old new said → length new ≡ length old
found_length lent table p None old new said d = ap length d.1
found_length lent table p (Some None) old new said d = ap length d.1
found_length lent table p (Some (Some kept)) old new said d = ap length d.places ∙ length_set old p (Some d.after)

pub act_does : (s new : Core) (p : ℕ) (act : Act) (said : Answer) → SameRest s new → DidAt (lent_by s act) s.table p s.places.items new.places.items said → Does (event.At p act) s said new
act_does s new p act said rest did = record {
  each = λ w sound m. acted s new p act said w m sound rest did;
  sizes = record {
    places = found_length (lent_by s act) s.table p (slice_get s.places.items p) s.places.items new.places.items said did;
    slots = ap (λ tb. tb.slots) rest.table;
    methods = ap (λ tb. tb.methods) rest.table;
  };
}
