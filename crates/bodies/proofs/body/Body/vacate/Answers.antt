use Rattle.std.proofs.Common.{◌≡◌, ◌≤◌, [], sym, ap, subst, refl}
use Rattle.frames.specs.declared.CodeId.{CodeId}
use Rattle.frames.specs.declared.board_rule.SeatView.{SeatView}
use Rattle.frames.specs.BoardViews.{how_often}
use Rattle.frames.specs.ImageView.{IsCounted}
use Rattle.bodies.specs.declared.body.Parts.{Parts}
use Rattle.bodies.specs.Bodies.{IsSpare, BodyView}
use Rattle.bodies.proofs.Keeping.{IsHeldBox, none_counted, stays_paired}
use Rattle.bodies.proofs.body.Body.vacate.Goals as goal

pub vacate-requires-clause-uncounted : goal.vacate-requires-clause-uncounted
vacate-requires-clause-uncounted g c =
    subst (λ (p : Parts). (d : CodeId) → how_often p.seat.seen.counted d ≡ 0) (sym c.deref_mut-left.ensures.value)
    (none_counted _ _ _ c.self.invariant.1.1 (subst (λ (p : BodyView). p.image.frames ≡ []) (sym c.self.view_is) c.requires.empty) (subst (λ (p : BodyView). IsCounted p.image) (sym c.self.view_is) c.requires.counted))

pub invariant_of-result : goal.invariant_of-result
invariant_of-result g c =
    let e = c.vacate.ensures in let left = c.deref_mut-left.result.now in let boxed = sym c.deref_mut-left.ensures.value in
    let held : IsHeldBox g.N.Name.board g.N.Name.poll_row left = subst (IsHeldBox g.N.Name.board g.N.Name.poll_row) boxed c.self.invariant in
    let none =
    none_counted _ _ _ c.self.invariant.1.1 (subst (λ (p : BodyView). p.image.frames ≡ []) (sym c.self.view_is) c.requires.empty) (subst (λ (p : BodyView). IsCounted p.image) (sym c.self.view_is) c.requires.counted) in (
      stays_paired g.N.Name.board g.N.Name.poll_row left.seat c.vacate.new.self left.poller held.0 e.board (ap (λ (t : SeatView). t.place) e.step),
      subst IsSpare (sym e.step) (refl, subst (λ (p : Parts). (d : CodeId) → how_often p.seat.seen.counted d ≡ 0) boxed none),
      (c.clear.ensures.items, subst (λ n. 1 ≤ n) (sym c.clear.ensures.capacity) held.2),
    )
