use Rattle.std.proofs.Common.{◌≡◌, ◌∙◌, ◌<◌, ap, refl, rules, arith, length, pos, None, ◌++◌, ◌∷◌, []}
use Rattle.frames.proofs.Settling.{after, moves, pushed, pushed_none, still, from_front, length_pushed}
use Rattle.frames.proofs.image.Image.put.Goals as goal

pub add-requires-clause-within : goal.add-requires-clause-within
add-requires-clause-within c =
    let closed = ap (λ v. v.publishing) c.self.view_is ∙ c.requires.closed in
    let none = c.self.invariant.4 closed in
    let frames = c.self.inside.frames.items in
    let nets = c.self.inside.nets.entries in
    let was : length frames < 256 = rw (← c.self.view_is) at c.requires.depth in
    let grown = length_pushed frames c.args.frame in
    let m = moves frames (frames ++ c.args.frame ∷ []) nets c.in-Some.code (pos 1) (pushed frames c.args.frame c.in-Some.code c.in-Some.is) (omega arith) refl c.self.invariant.5 (from_front frames nets c.self.inside.given none c.self.invariant.6) (c.self.invariant.7 closed) in
    m.net

pub add-requires-clause-room : goal.add-requires-clause-room
add-requires-clause-room c =
    let closed = ap (λ v. v.publishing) c.self.view_is ∙ c.requires.closed in
    let none = c.self.invariant.4 closed in
    let frames = c.self.inside.frames.items in
    let nets = c.self.inside.nets.entries in
    let was : length frames < 256 = rw (← c.self.view_is) at c.requires.depth in
    let grown = length_pushed frames c.args.frame in
    let m = moves frames (frames ++ c.args.frame ∷ []) nets c.in-Some.code (pos 1) (pushed frames c.args.frame c.in-Some.code c.in-Some.is) (omega arith) refl c.self.invariant.5 (from_front frames nets c.self.inside.given none c.self.invariant.6) (c.self.invariant.7 closed) in
    m.fits

pub invariant_of-self : goal.invariant_of-self
invariant_of-self c =
    let closed = ap (λ v. v.publishing) c.self.view_is ∙ c.requires.closed in
    let none = c.self.invariant.4 closed in
    let frames = c.self.inside.frames.items in
    let nets = c.self.inside.nets.entries in
    let was : length frames < 256 = rw (← c.self.view_is) at c.requires.depth in
    let grown = length_pushed frames c.args.frame in
    let m = moves frames (frames ++ c.args.frame ∷ []) nets c.in-Some.code (pos 1) (pushed frames c.args.frame c.in-Some.code c.in-Some.is) (omega arith) refl c.self.invariant.5 (from_front frames nets c.self.inside.given none c.self.invariant.6) (c.self.invariant.7 closed) in
    rw (c.add.ensures, c.push_reserved.ensures.items, none, closed) (
      search rules,
      search rules,
      refl,
      omega arith,
      λ _. refl,
      m.rising,
      m.kept.within,
      λ _. m.kept.few,
      m.fits,
    )

pub returns-in-Some : goal.returns-in-Some
returns-in-Some c =
    let closed = ap (λ v. v.publishing) c.self.view_is ∙ c.requires.closed in
    let none = c.self.invariant.4 closed in
    let frames = c.self.inside.frames.items in
    let nets = c.self.inside.nets.entries in
    let was : length frames < 256 = rw (← c.self.view_is) at c.requires.depth in
    let grown = length_pushed frames c.args.frame in
    let m = moves frames (frames ++ c.args.frame ∷ []) nets c.in-Some.code (pos 1) (pushed frames c.args.frame c.in-Some.code c.in-Some.is) (omega arith) refl c.self.invariant.5 (from_front frames nets c.self.inside.given none c.self.invariant.6) (c.self.invariant.7 closed) in
    rw (← c.self.view_is, c.add.ensures, c.push_reserved.ensures.items, none) (record {
      frames_are = refl;
      counted_stay = m.kept.same;
      changed_stay = refl;
      publishing_stays = refl;
    })

pub invariant_of-self-in_default : goal.invariant_of-self-in_default
invariant_of-self-in_default c =
    let closed = ap (λ v. v.publishing) c.self.view_is ∙ c.requires.closed in
    let none = c.self.invariant.4 closed in
    let frames = c.self.inside.frames.items in
    let nets = c.self.inside.nets.entries in
    let interpreted : c.args.frame.code ≡ None = c.in_default.is in
    let a = after frames (frames ++ c.args.frame ∷ []) nets nets (λ _. pos 0) (pushed_none frames c.args.frame interpreted) (still nets)
    (from_front frames nets c.self.inside.given none c.self.invariant.6) (c.self.invariant.7 closed) in
    rw (c.push_reserved.ensures.items, none) (
      search rules,
      search rules,
      c.self.invariant.2,
      omega arith,
      λ _. refl,
      c.self.invariant.5,
      a.within,
      λ _. a.few,
      c.self.invariant.8,
    )

pub returns-in_default : goal.returns-in_default
returns-in_default c =
    let closed = ap (λ v. v.publishing) c.self.view_is ∙ c.requires.closed in
    let none = c.self.invariant.4 closed in
    let frames = c.self.inside.frames.items in
    let nets = c.self.inside.nets.entries in
    let interpreted : c.args.frame.code ≡ None = c.in_default.is in
    let a = after frames (frames ++ c.args.frame ∷ []) nets nets (λ _. pos 0) (pushed_none frames c.args.frame interpreted) (still nets)
    (from_front frames nets c.self.inside.given none c.self.invariant.6) (c.self.invariant.7 closed) in
    rw (← c.self.view_is, c.push_reserved.ensures.items, none) (record {
      frames_are = refl;
      counted_stay = a.same;
      changed_stay = refl;
      publishing_stays = refl;
    })
