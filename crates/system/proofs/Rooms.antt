-- When a frame may be pushed.
use Rattle.std.proofs.Common.{◌≡◌, refl, true, false, Bool, Option, Some, None, cond, not, ℕ, length, arith}
use Rattle.std.specs.Prelude.{nat_lt, nat_le}
use Rattle.std.proofs.lemmas.Bool.Decides.{nat_tests}
use Rattle.system.specs.declared.thread.Thread.{Thread as Kept}
use Rattle.system.specs.declared.answers.Refusal.{Refusal}
use Rattle.system.specs.declared.answers.Refusal.TheVariants.{Unpublished, DepthFull}
use Rattle.system.specs.Verdict.{Verdict, unless◌refuse◌then◌}
use Rattle.system.specs.Places.{Effect}
use Rattle.system.specs.Kept.Threads.{frame_refusal}

by_bools : (p full : Bool) → ◌≡◌ {A = Option Refusal} (cond (not p) (Some Unpublished) (cond full (Some DepthFull) None)) None → (p ≡ true) × (full ≡ false)
by_bools true true h = cc
by_bools true false h = (refl, refl)
by_bools false full h = cc

below : (n : ℕ) → nat_le 256 n ≡ false → nat_lt n 256 ≡ true
below n h = grind (arith, nat_tests)

pub room_of : (kept : Kept) → frame_refusal kept ≡ None → (kept.published ≡ true) × (nat_lt (length kept.image.frames) 256 ≡ true)
room_of kept h = let facts = by_bools kept.published (nat_le 256 (length kept.image.frames)) h in (facts.0, below (length kept.image.frames) facts.1)

pub both_pass : (a b : Bool) (v : Verdict Effect) → a ≡ true → b ≡ true → (unless a refuse Unpublished then unless b refuse DepthFull then v) ≡ v
both_pass a b v h k = rw (h, k) refl
