use Rattle.std.proofs.Common.{ap, sym, ◌∙◌, rules, subst, length}
use Rattle.bodies.specs.Bodies.{SeatsView}
use Rattle.poll.specs.Rows.{full_armer}
use Rattle.thread_list.specs.Sized.{AreSeatsOf, ArePollersOf}
use Rattle.thread_list.proofs.Made.{seats_made, pollers_made}
use Rattle.thread_list.proofs.Paired.{long}
use Rattle.thread_list.proofs.parts.Parts.new.Goals as goal

pub invariant_of-result : goal.invariant_of-result
invariant_of-result c =
    let b = c.in-Ok.ensures in
    let r = c.in-Ok-new.ensures in
    let both = c.in-Ok-seats_of.ensures in (
      b.keeper,
      r.armer ∙ ap (full_armer c.in-Ok-new.row) (sym b.board.1),
      subst (AreSeatsOf c.in-Ok.board) (sym both.seats) (seats_made c.in-Ok.board c.args.places c.in-Ok.seats.items b.seats b.each_seat),
      subst (ArePollersOf c.in-Ok-new.row) (sym both.pollers) (pollers_made c.in-Ok-new.row c.args.places c.in-Ok-new.pollers.items (search rules) r.places),
      sym (long (λ (s : SeatsView). s.seat) c.in-Ok-seats_of.seats.items) ∙ ap length both.seats ∙ b.seats ∙ sym b.board.1,
      (search rules),
    )
