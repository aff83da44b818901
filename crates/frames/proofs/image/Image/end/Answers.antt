use Rattle.std.proofs.Common.{◌≡◌, ◌<◌, ◌≤◌, sym, refl, rules, arith, length, true}
use Rattle.frames.proofs.Bags.{times-codes_of}
use Rattle.frames.proofs.Settling.{is_left, none_left, all_counted, within_none, length-codes_of}
use Rattle.frames.proofs.image.Image.end.Goals as goal

pub returns-then-self-len-clause-refused : goal.returns-then-self-len-clause-refused
returns-then-self-len-clause-refused c =
    let open_ : c.self.inside.publishing ≡ true = search rules in
    let more : c.self.inside.given < length c.self.inside.nets.entries = omega (arith, c.if-self-len.true, c.len.ensures) in
    let left = is_left c.self.inside.frames.items c.self.inside.nets.entries c.self.inside.given c.self.invariant.5 c.self.invariant.6 more in
    rw (← c.self.view_is, open_, left) refl

pub invariant_of-self : goal.invariant_of-self
invariant_of-self c =
    rw c.clear.ensures (
      search rules,
      search rules,
      refl,
      omega arith,
      λ _. refl,
      tt,
      within_none c.self.inside.frames.items,
      λ _. (let n = length-codes_of c.self.inside.frames.items in let few : length c.self.inside.frames.items ≤ 256 = search rules in omega arith),
      omega arith,
    )

pub returns-clause-ok : goal.returns-clause-ok
returns-clause-ok c =
    rw (← c.self.view_is, c.clear.ensures) (refl, refl, λ code. sym (times-codes_of code c.self.inside.frames.items))

pub returns-clause-accepted : goal.returns-clause-accepted
returns-clause-accepted c =
    let open_ : c.self.inside.publishing ≡ true = search rules in
    let all : length c.self.inside.nets.entries ≤ c.self.inside.given = omega (arith, c.if-self-len.false, c.len.ensures) in
    let left = none_left c.self.inside.frames.items c.self.inside.nets.entries c.self.inside.given c.self.invariant.5 c.self.invariant.6 all in
    rw (← c.self.view_is, open_, left) refl

pub returns-clause-counted : goal.returns-clause-counted
returns-clause-counted c =
    let all : length c.self.inside.nets.entries ≤ c.self.inside.given = omega (arith, c.if-self-len.false, c.len.ensures) in
    rw (← c.self.view_is) (all_counted c.self.inside.frames.items c.self.inside.nets.entries c.self.inside.given c.self.invariant.6 all)
