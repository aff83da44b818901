use Rattle.std.proofs.Common.{◌≡◌, ◌+◌, ◌-◌, ◌∙◌, map, sym, ap, rules, arith, subst}
use Rattle.desk.specs.Machine.{Gone}
use Rattle.desk.specs.Fields.{DeskSeen, at, current_of, asked_of}
use Rattle.desk.specs.Pending.{first_waiting, least_open, least_pending}
use Rattle.desk.proofs.Pending.{forget_room, given_out, book_keeps}
use Rattle.desk.proofs.desk.Desk.forget.Goals as goal

pub forget-requires : goal.forget-requires
forget-requires g c =
    let i = c.self.inside in let m = c.self.invariant in
    let least = c.least_pending-least.ensures ∙ (ap (λ (d : DeskSeen). least_pending (at d)) (sym c.self.view_is) ∙ ap least_pending m.kept.state) in
    let last = c.saturating_sub.ensures ∙ ap (λ n. n - 1) least in
    let later = m.pending in
    record { later = omega arith; given = given_out c.saturating_sub.result i.log.lists m.kept m.replies last }

pub invariant_of-self : goal.invariant_of-self
invariant_of-self g c =
    let i = c.self.inside in let m = c.self.invariant in
    let least = c.least_pending-least.ensures ∙ (ap (λ (d : DeskSeen). least_pending (at d)) (sym c.self.view_is) ∙ ap least_pending m.kept.state) in
    let gone = ap (λ (x : Gone). x.operations) c.forget.ensures.gone in
    let last = c.saturating_sub.ensures ∙ ap (λ n. n - 1) least in
    let later = m.pending in
    record {
      kept = book_keeps c.forget.new.self.book m.kept c.forget.ensures.book.0 c.forget.ensures.book.1;
      carried = m.carried;
      few = m.few;
      capacity = m.capacity;
      places = m.places;
      named = m.named;
      replies = forget_room c.saturating_sub.result c.forget.new.self.book.gone i.log.lists c.forget.new.self.lists m.kept m.replies last m.pending gone (search rules);
      pending = omega arith;
    }

pub returns-clause-operations : goal.returns-clause-operations
returns-clause-operations g c =
    let i = c.self.inside in let m = c.self.invariant in
    let least = c.least_pending-least.ensures ∙ (ap (λ (d : DeskSeen). least_pending (at d)) (sym c.self.view_is) ∙ ap least_pending m.kept.state) in
    let gone = ap (λ (x : Gone). x.operations) c.forget.ensures.gone in
    let last = c.saturating_sub.ensures ∙ ap (λ n. n - 1) least in
    let later = m.pending in
    subst (λ (d : DeskSeen). c.forget.new.self.book.gone.operations + 1 ≡ least_pending (at d)) c.self.view_is
    (let here : c.forget.new.self.book.gone.operations + 1 ≡ least_open (first_waiting i.next_number (map asked_of i.queue)) (map current_of i.opened.items) = omega arith in
    here ∙ ap least_pending (sym m.kept.state))
