use Rattle.std.proofs.Common.{arith, ◌≡◌, ◌∙◌, ap, to_z, of_z, rules, SFits, w32}
use Rattle.std.proofs.lemmas.Int.{ints}
use Rattle.frames.specs.BoardViews.{count_changed}
use Rattle.bodies.proofs.Keeping.{changeable, only_counted}
use Rattle.bodies.proofs.body.publish_changes.Goals as goal

pub count_change-requires-clause-slot : goal.count_change-requires-clause-slot
count_change-requires-clause-slot c = let e = c.in-Some.ensures in (changeable _ _ _ _ _ c.requires.fit e.differs e.counts).slot

pub count_change-requires-clause-some : goal.count_change-requires-clause-some
count_change-requires-clause-some c =
    let e = c.in-Some.ensures in let can = changeable _ _ _ _ _ c.requires.fit e.differs e.counts in
    let fits : SFits w32 c.in-Some.change.by = search rules in λ h. can.differs (omega (arith, ints))

pub returns-in-Some : goal.returns-in-Some
returns-in-Some c =
    let e = c.in-Some.ensures in let s = c.count_change.ensures in
    let fits : SFits w32 c.in-Some.change.by = search rules in
    let is : to_z w32 (of_z w32 c.in-Some.change.by) ≡ c.in-Some.change.by = omega (arith, ints) in
    let step : c.count_change.new.self.seen ≡ count_changed c.args.seat.now.seen c.in-Some.change.code c.in-Some.change.by s.step.0 = s.step.1 ∙ ap (λ z. count_changed c.args.seat.now.seen c.in-Some.change.code z s.step.0) is in
    only_counted c.args.image.now c.settle_only.new.self c.args.seat.now c.count_change.new.self c.in-Some.change s.step.0 c.requires.fit e.differs e.counts step s.board e.settled
