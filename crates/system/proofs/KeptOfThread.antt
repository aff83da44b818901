-- The system's state of a thread is enough for all its acts.
use Rattle.std.proofs.Common.{◌≡◌, sym, subst, ℕ, true, List, [], ◌∷◌, Some}
use Rattle.std.specs.Prelude.{slice_get}
use Rattle.system.specs.declared.thread.Thread.{Thread as Kept}
use Rattle.system.specs.declared.requests.Open.{Open}
use Rattle.system.specs.declared.keeping.Core.{Core}
use Rattle.system.specs.Operations.{Requests, Opened}
use Rattle.system.specs.Threads.{Thread}
use Rattle.system.specs.World.{World, is_live}
use Rattle.system.specs.Facts.{IsSound}
use Rattle.system.specs.Kept.Threads.{SameOpen, OpenBy, IsHere, PollIs}
use Rattle.system.specs.Marking.{SameMarks}
use Rattle.system.specs.Stands.{Matches, SameAt}
use Rattle.system.proofs.SoundMarks.{live_has}
use Rattle.system.proofs.ThreeNumbers.{poll_is, same_open}
use Rattle.system.proofs.Pairs.{Pairs, pairs_of}

opened_by : (kept : Kept) (requests : Requests) (opens : List Open) (opened : List Opened) → Pairs (λ a o. SameOpen a kept requests o) opens opened → OpenBy opens kept requests opened
opened_by kept requests [] [] h = tt
opened_by kept requests (a ∷ opens) (o ∷ opened) h = (h.0, opened_by kept requests opens opened h.1)
opened_by kept requests [] (o ∷ opened) h = absurd h
opened_by kept requests (a ∷ opens) [] h = absurd h

pub poll_here : (w : World) (place : ℕ) (kept : Kept) (t : Thread) → SameAt w place kept t → PollIs w.requests t kept
poll_here w place kept t same = poll_is kept.marks w.requests t.name same.marks

-- An open operation and the thread's marks for it.
pub open_here : (s : Core) (w : World) (place : ℕ) (kept : Kept) (t : Thread) → Matches s w → IsSound w → slice_get w.places place ≡ Some (Some t) → SameAt w place kept t → Pairs (λ a o. SameOpen a kept w.requests o) s.requests.opens w.requests.opened
open_here s w place kept t m sound there same = pairs_of (λ a o. SameOpen a kept w.requests o) w s.requests.opens w.requests.opened m.opened (λ i a o at both. same_open a o kept w i sound.marks at (sound.numbers.opened_is i o at).0 both marks lives)
  where
    marks : SameMarks kept.marks w.requests kept.name
    marks = subst (λ n. SameMarks kept.marks w.requests n) (sym same.thread.name) same.marks

    lives : is_live w kept.name ≡ true
    lives = subst (λ n. is_live w n ≡ true) (sym same.thread.name) (live_has w place t there)

-- The state that an act of the thread uses.
pub is_here : (s : Core) (w : World) (place : ℕ) (kept : Kept) (t : Thread) → Matches s w → IsSound w → slice_get w.places place ≡ Some (Some t) → SameAt w place kept t → IsHere s.requests.opens kept w.requests t
is_here s w place kept t m sound there same = record {
  thread = same.thread;
  poll = poll_here w place kept t same;
  opened = opened_by kept w.requests s.requests.opens w.requests.opened (open_here s w place kept t m sound there same);
}
