use Rattle.std.proofs.Common.{arith, ◌≡◌, sym, ap, ◌∙◌}
use Rattle.poll.proofs.Steps.{clears}
use Rattle.poll.proofs.row.Poller.clear.Goals as goal

pub compare_exchange-requires : goal.compare_exchange-requires
compare_exchange-requires c = let z = c.self.inside.seat.table_id in
    let same : z ≡ c.row.inside.table.shared.table_id = ap (λ t. t.table) c.self.view_is ∙ (c.requires.row ∙ sym c.row.view_is) in
    let wide : z.words ≡ c.row.inside.table.shared.table_id.words = ap (λ t. t.words) same in
    let words = c.row.invariant.0 in let mine = c.self.invariant in (same, omega arith, clears c.row.inside.table.shared.key _ _ _ _ _ mine.0 mine.2 (omega arith) c.requires.number)
