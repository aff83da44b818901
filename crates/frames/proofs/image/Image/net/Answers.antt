use Rattle.std.proofs.Common.{◌≡◌, ◌∙◌, Bool, true, false, ℕ, refl, arith, drop}
use Rattle.std.proofs.lemmas.Int.{ints}
use Rattle.frames.proofs.Settling.{serial_balance, rising_drop}
use Rattle.frames.proofs.image.Image.net.Goals as goal

open_where : (publishing : Bool) (given : ℕ) → (publishing ≡ false → given ≡ 0) → (given ≡ 0 → ⊥) → publishing ≡ true
open_where true given h k = refl
open_where false given h k = absurd (k (h refl))

pub sum-requires-clause-flushed : goal.sum-requires-clause-flushed
sum-requires-clause-flushed c = λ given. c.self.invariant.2 ∙ (open_where c.self.inside.publishing c.self.inside.given c.self.invariant.4 given)

pub returns : goal.returns
returns c =
    let even = serial_balance c.args.serial c.self.inside.frames.items (drop c.self.inside.given c.self.inside.nets.entries) (rising_drop c.self.inside.given c.self.inside.nets.entries c.self.invariant.5) c.self.invariant.6 in
    rw (← c.self.view_is) (omega (arith, ints, c.sum.ensures, even))
