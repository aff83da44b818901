use Rattle.std.proofs.Common.{◌<◌, length, sym, ap, subst, refl, Option, Some, None, IfSome}
use Rattle.frames.specs.declared.CodeId.{CodeId}
use Rattle.frames.specs.declared.board_rule.SeatView.{SeatView}
use Rattle.frames.specs.ImageView.{ImageView}
use Rattle.board.specs.Boards.{SeatSeen}
use Rattle.bodies.specs.Bodies.{IsPaired, IsTried, code_if}
use Rattle.bodies.proofs.Keeping.{IsHeldBox, index_is, kept_image, kept_set, called_keeps, entered_tried, stays_paired}
use Rattle.bodies.proofs.body.Body.call.Goals.{in-Some+else-enter, in_default}
use Rattle.bodies.proofs.body.Body.call.Goals as goal

pub invariant_of-self : goal.invariant_of-self
invariant_of-self g c =
    let e = c.enter.ensures in let code = c.in-Some.code in let seat = c.enter.new.self in
    let now = c.deref_mut-parts.result.now in let image = c.index_mut-image.result.now in
    let held : IsHeldBox g.N.Name.board g.N.Name.poll_row now = subst (IsHeldBox g.N.Name.board g.N.Name.poll_row) (sym c.deref_mut-parts.ensures.value) c.self.invariant in
    let was = kept_image g.N.Name.board.slots now.images.items image now.seat.seen held.1 c.index_mut-image.ensures.value in
    let is = index_is c.self.inside.parts.value now c.args.self.now image c.self.invariant.1.0 c.self.view_is c.deref_mut-parts.ensures.value c.index_mut-image.ensures.value in
    let room = subst (λ (i : ImageView). length i.frames < 256) (sym is) c.requires.depth in
    let tried = subst (λ b. IsTried now.seat.seen seat.seen (Some code) (code_if code b)) c.if-enter.true (entered_tried now.seat.seen seat.seen code c.enter.result e.step e.gone) in
    let low = subst (λ (o : Option CodeId). IfSome o (λ d. d.slot < g.N.Name.board.slots)) c.in-Some.is c.requires.slot in (
      stays_paired g.N.Name.board g.N.Name.poll_row now.seat seat now.poller held.0 e.board (ap (λ (t : SeatView). t.place) e.step.1),
      kept_set g.N.Name.board.slots now.images.items c.put.new.self seat.seen held.1.0
          (called_keeps g.N.Name.board.slots image c.put.new.self now.seat.seen seat.seen c.args.method (Some code) (Some code) was tried low c.put.ensures room),
      held.2,
    )

pub invariant_of-self-2 : goal.invariant_of-self-2
invariant_of-self-2 g c =
    let seat : SeatSeen = c.match-hint.parts.1.1.1.0 in
    let now = c.deref_mut-parts.result.now in let image = c.index_mut-image.result.now in
    let held : IsHeldBox g.N.Name.board g.N.Name.poll_row now = subst (IsHeldBox g.N.Name.board g.N.Name.poll_row) (sym c.deref_mut-parts.ensures.value) c.self.invariant in
    let was = kept_image g.N.Name.board.slots now.images.items image now.seat.seen held.1 c.index_mut-image.ensures.value in
    let is = index_is c.self.inside.parts.value now c.args.self.now image c.self.invariant.1.0 c.self.view_is c.deref_mut-parts.ensures.value c.index_mut-image.ensures.value in
    let room = subst (λ (i : ImageView). length i.frames < 256) (sym is) c.requires.depth in
    let Met : SeatSeen → Type 0 = λ s. IsPaired g.N.Name.board g.N.Name.poll_row s now.poller × IsTried now.seat.seen s.seen c.args.hint None in
    let met : Met seat = elim c.match-hint.branch [
      | in-Some+else-enter w ↦
          let e = w.enter.ensures in let code = w.in-Some.code in let tried = entered_tried now.seat.seen w.enter.new.self.seen code w.enter.result e.step e.gone in
          subst Met (λ i. ((sym w.parts-is) i).1.1.1.0) (
            stays_paired g.N.Name.board g.N.Name.poll_row now.seat w.enter.new.self now.poller held.0 e.board (ap (λ (t : SeatView). t.place) e.step.1),
            subst (λ (o : Option CodeId). IsTried now.seat.seen w.enter.new.self.seen o None) (sym w.in-Some.is)
                (subst (λ b. IsTried now.seat.seen w.enter.new.self.seen (Some code) (code_if code b)) w.if-enter.false tried),
          )
      | in_default w ↦ subst Met (λ i. ((sym w.parts-is) i).1.1.1.0) (held.0, subst (λ (o : Option CodeId). IsTried now.seat.seen now.seat.seen o None) (sym w.in_default.is) (refl, refl))
    ] in (
      met.0,
      kept_set g.N.Name.board.slots now.images.items c.put-2.new.self seat.seen held.1.0
          (called_keeps g.N.Name.board.slots image c.put-2.new.self now.seat.seen seat.seen c.args.method c.args.hint None was met.1 c.requires.slot c.put-2.ensures room),
      held.2,
    )
