use Rattle.std.proofs.Common.{◌∙◌, ◌≤◌, ap, refl, rules, arith, length, pos, negsuc}
use Rattle.frames.proofs.Settling.{after, moves, popped, popped_none, still, from_front, length_pushed}
use Rattle.frames.proofs.image.Image.take_top.Goals as goal

pub add-requires-clause-within : goal.add-requires-clause-within
add-requires-clause-within c =
    let closed = ap (λ v. v.publishing) c.self.view_is ∙ c.requires.closed in
    let none = c.self.invariant.4 closed in
    let frames = c.self.inside.frames.items in
    let others = c.take_last-frame.new.self.items in
    let nets = c.self.inside.nets.entries in
    let was : length frames ≤ 256 = search rules in
    let shrunk = ap length c.take_last-frame.ensures.items ∙ length_pushed others c.take_last-frame.result in
    let code = c.in-Some.code in
    let m = moves frames others nets code (negsuc 0) (popped frames others c.take_last-frame.result code c.take_last-frame.ensures.items c.in-Some.is) (omega arith) refl c.self.invariant.5 (from_front frames nets c.self.inside.given none c.self.invariant.6) (c.self.invariant.7 closed) in
    m.net

pub add-requires-clause-room : goal.add-requires-clause-room
add-requires-clause-room c =
    let closed = ap (λ v. v.publishing) c.self.view_is ∙ c.requires.closed in
    let none = c.self.invariant.4 closed in
    let frames = c.self.inside.frames.items in
    let others = c.take_last-frame.new.self.items in
    let nets = c.self.inside.nets.entries in
    let was : length frames ≤ 256 = search rules in
    let shrunk = ap length c.take_last-frame.ensures.items ∙ length_pushed others c.take_last-frame.result in
    let code = c.in-Some.code in
    let m = moves frames others nets code (negsuc 0) (popped frames others c.take_last-frame.result code c.take_last-frame.ensures.items c.in-Some.is) (omega arith) refl c.self.invariant.5 (from_front frames nets c.self.inside.given none c.self.invariant.6) (c.self.invariant.7 closed) in
    m.fits

pub invariant_of-self : goal.invariant_of-self
invariant_of-self c =
    let closed = ap (λ v. v.publishing) c.self.view_is ∙ c.requires.closed in
    let none = c.self.invariant.4 closed in
    let frames = c.self.inside.frames.items in
    let others = c.take_last-frame.new.self.items in
    let nets = c.self.inside.nets.entries in
    let was : length frames ≤ 256 = search rules in
    let shrunk = ap length c.take_last-frame.ensures.items ∙ length_pushed others c.take_last-frame.result in
    let code = c.in-Some.code in
    let m = moves frames others nets code (negsuc 0) (popped frames others c.take_last-frame.result code c.take_last-frame.ensures.items c.in-Some.is) (omega arith) refl c.self.invariant.5 (from_front frames nets c.self.inside.given none c.self.invariant.6) (c.self.invariant.7 closed) in
    rw (c.add.ensures, none, closed) (
      search rules,
      search rules,
      refl,
      omega arith,
      λ _. refl,
      m.rising,
      m.kept.within,
      λ _. m.kept.few,
      m.fits,
    )

pub returns-in-Some-clause-left : goal.returns-in-Some-clause-left
returns-in-Some-clause-left c =
    let closed = ap (λ v. v.publishing) c.self.view_is ∙ c.requires.closed in
    let none = c.self.invariant.4 closed in
    let frames = c.self.inside.frames.items in
    let others = c.take_last-frame.new.self.items in
    let nets = c.self.inside.nets.entries in
    let was : length frames ≤ 256 = search rules in
    let shrunk = ap length c.take_last-frame.ensures.items ∙ length_pushed others c.take_last-frame.result in
    let code = c.in-Some.code in
    let m = moves frames others nets code (negsuc 0) (popped frames others c.take_last-frame.result code c.take_last-frame.ensures.items c.in-Some.is) (omega arith) refl c.self.invariant.5 (from_front frames nets c.self.inside.given none c.self.invariant.6) (c.self.invariant.7 closed) in
    rw (← c.self.view_is, c.add.ensures, none) (record {
      frames_are = refl;
      counted_stay = m.kept.same;
      changed_stay = refl;
      publishing_stays = refl;
    })

pub invariant_of-self-in_default : goal.invariant_of-self-in_default
invariant_of-self-in_default c =
    let closed = ap (λ v. v.publishing) c.self.view_is ∙ c.requires.closed in
    let none = c.self.invariant.4 closed in
    let frames = c.self.inside.frames.items in
    let others = c.take_last-frame.new.self.items in
    let nets = c.self.inside.nets.entries in
    let a = after frames others nets nets (λ _. pos 0) (popped_none frames others c.take_last-frame.result c.take_last-frame.ensures.items c.in_default.is) (still nets)
    (from_front frames nets c.self.inside.given none c.self.invariant.6) (c.self.invariant.7 closed) in
    rw none (
      search rules,
      search rules,
      c.self.invariant.2,
      omega arith,
      λ _. refl,
      c.self.invariant.5,
      a.within,
      λ _. a.few,
      c.self.invariant.8,
    )

pub returns-in_default-clause-left : goal.returns-in_default-clause-left
returns-in_default-clause-left c =
    let closed = ap (λ v. v.publishing) c.self.view_is ∙ c.requires.closed in
    let none = c.self.invariant.4 closed in
    let frames = c.self.inside.frames.items in
    let others = c.take_last-frame.new.self.items in
    let nets = c.self.inside.nets.entries in
    let a = after frames others nets nets (λ _. pos 0) (popped_none frames others c.take_last-frame.result c.take_last-frame.ensures.items c.in_default.is) (still nets)
    (from_front frames nets c.self.inside.given none c.self.invariant.6) (c.self.invariant.7 closed) in
    rw (← c.self.view_is, none) (record {
      frames_are = refl;
      counted_stay = a.same;
      changed_stay = refl;
      publishing_stays = refl;
    })
