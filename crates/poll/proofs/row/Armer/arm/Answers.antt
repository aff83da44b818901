use Rattle.std.proofs.Common.{arith, ◌≡◌, ◌<◌, sym, ap, ◌∙◌, subst, slice_index, length}
use Rattle.poll.proofs.Steps.{arms}
use Rattle.poll.proofs.row.Armer.arm.Goals as goal

pub store-requires : goal.store-requires
store-requires c = let z = c.self.inside.seat.table_id in
    let same : z ≡ c.row.inside.table.shared.table_id = ap (λ t. t.table) c.self.view_is ∙ (c.requires.row ∙ sym c.row.view_is) in
    let wide : z.words ≡ c.row.inside.table.shared.table_id.words = ap (λ t. t.words) same in
    let words = c.row.invariant.0 in let mine = c.self.invariant in
    let count : length c.self.inside.last.items ≡ length c.args.self.now.seen.armed = ap length mine.1 ∙ ap (λ t. length t.seen.armed) c.self.view_is in let place = c.requires.place in
    (same, omega arith, arms c.row.inside.table.shared.key _ _ _ c.args.place _ _ mine.0 c.word_at.ensures (omega arith) (subst (λ a. slice_index a.armed c.args.place < c.args.n) (sym (ap (λ t. t.seen) c.self.view_is)) c.requires.later))
