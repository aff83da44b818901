use Rattle.std.proofs.Common.{◌≡◌, false, rules}
use Rattle.frames.proofs.Settling.{settled_iff, from_front}
use Rattle.frames.proofs.image.Image.is_settled.Goals as goal

pub returns-then-not-self : goal.returns-then-not-self
returns-then-not-self c =
    let closed : c.self.inside.publishing ≡ false = search rules in
    let none = c.self.invariant.4 closed in
    let entries = c.self.inside.nets.entries in
    rw (← c.self.view_is, none) (settled_iff c.self.inside.frames.items entries c.self.inside.publishing c.is_empty.result closed c.is_empty.ensures c.self.invariant.5 (from_front c.self.inside.frames.items entries c.self.inside.given none c.self.invariant.6))
