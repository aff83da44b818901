-- A held thread is in a safe state, after any events.
use Rattle.std.proofs.Common.{ℕ, ◌+◌, Some, None, sym, ◌∙◌, ⊎_elim}
use Rattle.std.specs.Prelude.{slice_set}
use Rattle.std.proofs.lemmas.Bool.{false≢true}
use Rattle.system.specs.Threads.{Thread}
use Rattle.system.specs.World.{World}
use Rattle.system.specs.Places.{popped}
use Rattle.system.specs.Step.{new_thread}
use Rattle.system.specs.Log.{names_given}
use Rattle.system.specs.Laws.{HeldIsSafe}
use Rattle.system.proofs.Outcomes.{Stands, begun, changed_by, ended, entered, moved, held, released}
use Rattle.method_table.specs.Codes.{id_of}
use Rattle.system.proofs.EventCases.{Cases}
use Rattle.system.proofs.Seats.{Each, each_some, each_none}

-- The thread at each place is in a safe state if held.
abbrev pub AreSafe : World → Type 0
AreSafe w = Each (λ p t. HeldIsSafe t) w.places

same_seat : (w : World) (p : ℕ) (t u : Thread) → AreSafe w → Stands w p t → (HeldIsSafe t → HeldIsSafe u) → Each (λ p t. HeldIsSafe t) (slice_set w.places p (Some u))
same_seat w p t u h s k = each_some (λ p t. HeldIsSafe t) w.places p u s.low h (k (h p t s.there))

pub safe_kept : (w : World) → AreSafe w → Cases w (λ e a v. AreSafe v)
safe_kept w h = record {
  refuses = λ e r. h;
  begins = λ p t i. same_seat w p t (begun t) h i.stands (λ x. x);
  changes = λ p t code i. same_seat w p t (changed_by t code) h i.publishes.stands (λ x. x);
  rests = λ p t i. same_seat w p t t h i.publishes.stands (λ x. x);
  ends = λ p t i. same_seat w p t (ended t) h i.publishes.stands (λ x. x);
  moves = λ p t a state given i. same_seat w p t (moved t state) h i.acts.stands (λ x held.
      ⊎_elim (λ free. absurd (false≢true (sym free ∙ held))) (λ unsafe. absurd (false≢true (sym unsafe ∙ x held))) i.free);
  interprets = λ p t method i. same_seat w p t (entered t method None) h i.acts.stands (λ x. x);
  enters = λ p t method serial code i. same_seat w p t (entered t method (Some (id_of code))) h i.calls.acts.stands (λ x. x);
  misses = λ p t method serial code i. same_seat w p t t h i.calls.acts.stands (λ x. x);
  leaves = λ p t state i. same_seat w p t (moved (popped t) state) h i.acts.stands (λ x held. absurd (false≢true (sym i.unsafe ∙ x held)));
  exits = λ p t i. each_none (λ p t. HeldIsSafe t) w.places p i.acts.stands.low h;
  finishes = λ p t opened i. h;
  clears = λ p t opened i. h;
  holds = λ p t opened i. same_seat w p t (held t) h i.acts.stands (λ x y. i.safe);
  releases = λ p t i. same_seat w p t (released t) h i.acts.stands (λ x y. absurd (false≢true y));
  shows = λ p t i. same_seat w p t t h i (λ x. x);
  starts = λ p i. each_some (λ p t. HeldIsSafe t) w.places p (new_thread (names_given w.log + 1)) i.low h (λ y. absurd (false≢true y));
  installs = λ method slot i. h;
  invalidates = λ serial code i. h;
  goes_round = λ i. h;
  looks_clear = λ serial p code i. h;
  looks_late = λ serial p code i. h;
  finds_unlooked = λ serial code p i. h;
  finds_used = λ serial code i. h;
  retires = λ serial code i. h;
  frees = λ serial code i. h;
  asks = λ request i. h;
  opens = λ oldest others i. h;
  tells = λ name opened i. h;
  finds_gone = λ name i. h;
  operates = λ opened others i. h;
  closes = λ number opened i. h;
  counts = λ serial code i. h;
  says_state = λ serial code i. h;
  resolves = λ method i. h;
}
