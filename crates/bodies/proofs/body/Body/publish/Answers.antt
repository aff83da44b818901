use Rattle.std.proofs.Common.{arith, ◌∙◌, sym, ap, subst, refl, slice_set}
use Rattle.frames.specs.declared.board_rule.SeatView.{SeatView}
use Rattle.frames.specs.ImageView.{ImageView}
use Rattle.board.specs.Boards.{BoardId}
use Rattle.bodies.specs.Bodies.{image_of, IsFit, IsPublished, BodyView}
use Rattle.bodies.proofs.Keeping.{IsHeldBox, shown, only_image, only_set, kept_set, counted_moment, counted_fits, published, stays_paired}
use Rattle.bodies.proofs.body.Body.publish.Goals as goal

pub end_publication-requires-clause-begun : goal.end_publication-requires-clause-begun
end_publication-requires-clause-begun g c =
    let k = c.count_moved.ensures in let some = c.read_moment.ensures.some in
    let w = counted_moment c.index_mut-image.result.now c.count_moved.new.image c.deref_mut-parts.result.now.seat.seen c.read_moment.new.self.seen c.count_moved.new.seat.seen k.changes c.read_moment.ensures.step k.made in let at = w.0 in λ e. omega arith

pub invariant_of-self : goal.invariant_of-self
invariant_of-self g c =
    let k = c.count_moved.ensures in let end = c.end_publication.ensures in let now = c.deref_mut-parts.result.now in
    let held : IsHeldBox g.N.Name.board g.N.Name.poll_row now = subst (IsHeldBox g.N.Name.board g.N.Name.poll_row) (sym c.deref_mut-parts.ensures.value) c.self.invariant in
    let w = counted_moment c.index_mut-image.result.now c.count_moved.new.image now.seat.seen c.read_moment.new.self.seen c.count_moved.new.seat.seen k.changes c.read_moment.ensures.step k.made in
    let board = c.read_moment.ensures.board in (
      stays_paired g.N.Name.board g.N.Name.poll_row now.seat c.end_publication.new.self now.poller held.0 (end.board ∙ (k.board_stays ∙ board)) (ap (λ (t : SeatView). t.place) end.step ∙ w.1),
      kept_set g.N.Name.board.slots now.images.items c.count_moved.new.image c.end_publication.new.self.seen held.1.0 (
        counted_fits g.N.Name.board.slots c.count_moved.new.image c.count_moved.new.image c.count_moved.new.seat.seen c.end_publication.new.self.seen
            (subst (λ (b : BoardId). IsFit b.slots c.count_moved.new.image c.count_moved.new.seat.seen) (board ∙ held.0.0) k.fit) refl k.settled.1 k.settled.1 (ap (λ (t : SeatView). t.counted) end.step),
        k.settled.0,
      ),
      held.2,
    )

pub returns : goal.returns
returns g c =
    let k = c.count_moved.ensures in let now = c.deref_mut-parts.result.now in let seat = c.end_publication.new.self.seen in
    let held : IsHeldBox g.N.Name.board g.N.Name.poll_row now = subst (IsHeldBox g.N.Name.board g.N.Name.poll_row) (sym c.deref_mut-parts.ensures.value) c.self.invariant in
    let was = only_image now.images.items c.index_mut-image.result.now held.1.0 c.index_mut-image.ensures.value in
    let is = (only_set now.images.items c.count_moved.new.image held.1.0).1 in
    let with : ImageView → SeatView → BodyView = λ i t. record { name = now.name; image = i; seat = t; poller = now.poller.seen } in
    let made : IsPublished (with c.index_mut-image.result.now now.seat.seen) (with c.count_moved.new.image seat) =
    published now.name now.poller.seen c.index_mut-image.result.now c.count_moved.new.image now.seat.seen c.read_moment.new.self.seen c.count_moved.new.seat.seen seat k.changes
    c.read_moment.ensures.step c.read_moment.ensures.some k.made k.settled c.end_publication.ensures.step in
    subst (λ (p : BodyView). IsPublished p (with (image_of (slice_set now.images.items 0 c.count_moved.new.image)) seat)) (ap shown c.deref_mut-parts.ensures.value ∙ c.self.view_is)
    (subst (λ (i : ImageView). IsPublished (shown now) (with i seat)) (sym is) (subst (λ (i : ImageView). IsPublished (with i now.seat.seen) (with c.count_moved.new.image seat)) (sym was) made))
