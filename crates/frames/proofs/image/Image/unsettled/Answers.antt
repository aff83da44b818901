use Rattle.frames.specs.Nets.{codes_in}
use Rattle.std.proofs.Common.{take, drop, ◌∙◌, sym, arith}
use Rattle.frames.proofs.Settling.{unsettled_is, rising_drop, length_left}
use Rattle.frames.proofs.image.Image.unsettled.Goals as goal

pub returns : goal.returns
returns c =
    let left = length_left c.self.inside.given c.self.inside.nets.entries c.self.invariant.3 in
    rw (← c.self.view_is) (omega (arith, c.len.ensures, left) ∙ sym (unsettled_is c.self.inside.frames.items (drop c.self.inside.given c.self.inside.nets.entries) (codes_in (take c.self.inside.given c.self.inside.nets.entries)) c.self.inside.publishing (rising_drop c.self.inside.given c.self.inside.nets.entries c.self.invariant.5) c.self.invariant.6))
