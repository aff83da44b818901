use Rattle.std.proofs.Common.{arith, ◌≡◌, ℕ, sym, refl, ap, ◌∙◌}
use Rattle.board.specs.Boards.{BoardId, board_id}
use Rattle.board.specs.Plays.{asked}
use Rattle.board.proofs.Threads.{loads_entry}
use Rattle.board.proofs.thread_seat.ThreadSeat.load_entry.Goals as goal

pub load-requires : goal.load-requires
load-requires g c =
    let same : board_id c.self.inside.seat.table_id c.self.inside.slots c.self.inside.places ≡ board_id c.board.inside.table.shared.table_id c.board.inside.slots c.board.inside.places
    = ap (λ t. t.board) c.self.view_is ∙ (c.requires.board ∙ sym c.board.view_is) in
    let slots = ap (λ (b : BoardId). b.slots) same in let places = ap (λ (b : BoardId). b.places) same in
    let mine = c.self.invariant in let its = c.board.invariant in let wide = its.1 in
    let key : c.board.inside.table.shared.key ≡ (c.self.inside.slots, c.self.inside.places) = its.0 ∙ (λ i. (sym slots i, sym places i)) in
    let sizes : c.board.inside.table.shared.key ≡ (c.args.self.now.board.slots, c.args.self.now.board.places) = key ∙ ap (λ t. (t.board.slots, t.board.places)) c.self.view_is in
    let key0 = ap (λ (n : ℕ × ℕ). n.0) key in let key1 = ap (λ (n : ℕ × ℕ). n.1) key in
    let seen = ap (λ t. t.seen) c.self.view_is in
    let now_slots : c.args.self.now.board.slots ≡ c.self.inside.slots = sym (ap (λ t. t.board.slots) c.self.view_is) in
    let now_places : c.args.self.now.board.places ≡ c.self.inside.places = sym (ap (λ t. t.board.places) c.self.view_is) in
    let low = c.requires.slot in (
      ap (λ (b : BoardId). b.table) same,
      omega arith,
      rw c.requires.about (loads_entry _ _ _ _ (asked c.args.self.now.board c.args.code 0) mine.0 sizes _ (c.entry_at.ensures ∙ refl)
          (λ e. c.requires.published (sym (ap (λ t. t.stored) seen) ∙ e)) (omega arith)),
    )
