use Rattle.std.proofs.Common.{◌≡◌, ◌∙◌, ◌⊎◌, inl, inr, ⊎_elim, ◌≤◌, ◌∷◌, sym, ap, refl, rules, arith, length, false, [], Option, Some, None, IfSome, IfNone}
use Rattle.std.proofs.lemmas.Option.{IfSome_then}
use Rattle.frames.specs.declared.Change.{Change}
use Rattle.frames.specs.Nets.{NetsView}
use Rattle.frames.proofs.Bags.{times-codes_of}
use Rattle.frames.proofs.Settling.{from_front, only_differs, within_none, length-codes_of}
use Rattle.frames.proofs.image.Image.settle_only.Goals as goal

abbrev no_nets : NetsView
no_nets = record { entries = []; flushed = false }

none_or_same : (o : Option Change) (old new : NetsView) → IfSome o (λ net. (old.entries ≡ net ∷ []) × (new ≡ no_nets)) → IfNone o (new ≡ old) → (new ≡ no_nets) ⊎ (new ≡ old)
none_or_same (Some net) old new some none = inl some.1
none_or_same None old new some none = inr none

pub invariant_of-self : goal.invariant_of-self
invariant_of-self c =
    let closed : c.self.inside.publishing ≡ false = ap (λ v. v.publishing) c.self.view_is ∙ c.requires.closed in
    let none = c.self.invariant.4 closed in
    let frames = c.self.inside.frames.items in
    ⊎_elim
    (λ (taken : c.take_only.new.self ≡ no_nets). rw (taken, closed, none) (
      search rules,
      search rules,
      refl,
      omega arith,
      λ _. refl,
      tt,
      within_none frames,
      λ _. (let n = length-codes_of frames in let few : length frames ≤ 256 = search rules in omega arith),
      omega arith,
    ))
    (λ (same : c.take_only.new.self ≡ c.self.inside.nets). rw same c.self.invariant)
    (none_or_same c.take_only.result c.self.inside.nets c.take_only.new.self c.take_only.ensures.some c.take_only.ensures.none)

pub returns-clause-settled : goal.returns-clause-settled
returns-clause-settled c =
    let closed : c.self.inside.publishing ≡ false = ap (λ v. v.publishing) c.self.view_is ∙ c.requires.closed in
    let none = c.self.invariant.4 closed in
    IfSome_then c.take_only.result c.take_only.ensures.some (λ net taken. rw (taken.1, closed, none) (refl, λ code. sym (times-codes_of code c.self.inside.frames.items)))

pub returns-clause-counts : goal.returns-clause-counts
returns-clause-counts c =
    let closed = ap (λ v. v.publishing) c.self.view_is ∙ c.requires.closed in
    let none = c.self.invariant.4 closed in
    let frames = c.self.inside.frames.items in
    let nets = c.self.inside.nets.entries in
    IfSome_then c.take_only.result c.take_only.ensures.some (λ net taken.
    let only = only_differs frames nets net taken.0 c.self.invariant.5 (from_front frames nets c.self.inside.given none c.self.invariant.6) in
    rw (← c.self.view_is, taken.1, none, taken.0) (record {
      frames_stay = refl;
      publishing_stays = refl;
      by = only.by;
      moved = only.moved;
      others = only.stay;
      grown = only.grown;
    }))

pub returns-clause-differs : goal.returns-clause-differs
returns-clause-differs c =
    let closed = ap (λ v. v.publishing) c.self.view_is ∙ c.requires.closed in
    let none = c.self.invariant.4 closed in
    let frames = c.self.inside.frames.items in
    let nets = c.self.inside.nets.entries in
    IfSome_then c.take_only.result c.take_only.ensures.some (λ net taken.
    let only = only_differs frames nets net taken.0 c.self.invariant.5 (from_front frames nets c.self.inside.given none c.self.invariant.6) in
    rw (← c.self.view_is, none, taken.0) only.differs)

pub returns-clause-others : goal.returns-clause-others
returns-clause-others c =
    let closed = ap (λ v. v.publishing) c.self.view_is ∙ c.requires.closed in
    let none = c.self.invariant.4 closed in
    let frames = c.self.inside.frames.items in
    let nets = c.self.inside.nets.entries in
    IfSome_then c.take_only.result c.take_only.ensures.some (λ net taken.
    let only = only_differs frames nets net taken.0 c.self.invariant.5 (from_front frames nets c.self.inside.given none c.self.invariant.6) in
    rw (← c.self.view_is, none, taken.0) only.others)
