use Rattle.std.proofs.Common.{◌≡◌, ◌∙◌, ap, rules, subst}
use Rattle.board.specs.Boards.{BoardId, KeeperSeen, first_keeper}
use Rattle.poll.specs.Rows.{RowId}
use Rattle.thread_list.specs.Sized.{AreSeatsOf, ArePollersOf, seats_in, pollers_in}
use Rattle.thread_list.proofs.parts.Parts.into_pieces.Goals as goal

pub rooms_of-requires-clause-seats : goal.rooms_of-requires-clause-seats
rooms_of-requires-clause-seats g c =
    let same : c.self.inside.board ≡ g.N.Name.board = search rules in
    subst (λ (b : BoardId). AreSeatsOf b (seats_in c.self.inside.seats.items)) same c.self.invariant.2

pub rooms_of-requires-clause-pollers : goal.rooms_of-requires-clause-pollers
rooms_of-requires-clause-pollers g c =
    let same : c.self.inside.row ≡ g.N.Name.poll_row = search rules in
    subst (λ (b : RowId). ArePollersOf b (pollers_in c.self.inside.seats.items)) same c.self.invariant.3

pub returns-in-Ok-new-3-clause-desk : goal.returns-in-Ok-new-3-clause-desk
returns-in-Ok-new-3-clause-desk g c =
    let d = c.in-Ok-new-3.ensures in
    let board : c.self.inside.board ≡ g.N.Name.board = search rules in
    let slots : c.in-Ok-new-2.table.slots ≡ g.N.Name.board.slots = search rules in
    let methods : c.in-Ok-new-2.table.methods ≡ c.args.self.methods = search rules in (
      d.book.0,
      d.book.1,
      d.gone.0,
      d.gone.1,
      d.jobs,
      d.keeper ∙ ap (λ (k : KeeperSeen). k.seen) c.self.invariant.0 ∙ ap (λ (b : BoardId). (first_keeper b).seen) board,
      d.sizes.0 ∙ slots,
      d.sizes.1 ∙ methods,
    )
