use Rattle.std.proofs.Common.{refl, ◌≡◌, false, true, rules, sym, ap, eqb, length}
use Rattle.frames.proofs.Settling.{settled_iff, from_front}
use Rattle.frames.proofs.image.Image.is_unmoved.Goals as goal

pub returns-then-not-self : goal.returns-then-not-self
returns-then-not-self c = λ yes.
    let closed : c.self.inside.publishing ≡ false = search rules in
    let none = c.self.invariant.4 closed in
    let entries = c.self.inside.nets.entries in
    let empty : true ≡ eqb (length entries) 0 = sym (ap (λ es. eqb (length es) 0) (c.is_unmoved.ensures yes)) in
    rw (← c.self.view_is, none) ((settled_iff c.self.inside.frames.items entries c.self.inside.publishing true closed empty c.self.invariant.5 (from_front c.self.inside.frames.items entries c.self.inside.given none c.self.invariant.6)).0 refl)
