-- The armer's numbers rise as places are armed.
use Rattle.std.proofs.Common.{◌≡◌, ◌<◌, ◌≤◌, ℕ, Option, Some, None, length, slice_index, sym, subst, arith, get_or-set_same, get_or-set_other}
use Rattle.std.specs.Prelude.{OnSome, IfNone}
use mathlib.Core.Logic.{dite}
use native.Mathlib.Decide.{ℕ_discrete}
use Rattle.thread_state.specs.declared.poll_rule.Arming.{Arming}
use Rattle.thread_state.specs.PollRule.{armed_with}
use Rattle.stopped_threads.specs.Holding.{ArmsOn}

pub arms_same : (old new : Arming) → new ≡ old → ArmsOn old new
arms_same old new e = record { rises = λ place. subst (λ (a : Arming). slice_index old.armed place ≤ slice_index a.armed place) (sym e) (omega arith) }

pub arms_then : (a b c : Arming) → ArmsOn a b → ArmsOn b c → ArmsOn a c
arms_then a b c p q = record { rises = λ place. let first = p.rises place in let then = q.rises place in omega arith }

-- arming a place with a greater number
arms_one : (old : Arming) (place number : ℕ) → place < length old.armed → slice_index old.armed place < number → ArmsOn old (armed_with old place number)
arms_one old place number low later = record {
  rises = λ p. dite (ℕ_discrete p place)
      (λ e. rw (e, get_or-set_same old.armed place number 0 low) (omega (arith, later)))
      (λ ne. rw (get_or-set_other old.armed place p number 0 ne) (omega arith));
}

pub arms_by : (old new : Arming) (place number : ℕ) → place < length old.armed → slice_index old.armed place < number → new ≡ armed_with old place number → ArmsOn old new
arms_by old new place number low later e = subst (ArmsOn old) (sym e) (arms_one old place number low later)

-- a place was armed as it was found, or nothing was done
pub arms_put : {A : Type 0} (r : Option A) (old new : Arming) (places place last number : ℕ) → places ≡ length old.armed → OnSome r (new ≡ armed_with old place number)
    → OnSome r ((place < places) × (slice_index old.armed place ≡ last) × (last < number)) → IfNone r (new ≡ old) → ArmsOn old new
arms_put None old new places place last number all armed found refused = arms_same old new refused
arms_put (Some a) old new places place last number all armed found refused =
    arms_by old new place number (subst (λ n. place < n) all found.0) (subst (λ n. n < number) (sym found.1) found.2) armed
