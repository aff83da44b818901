use Rattle.std.proofs.Common.{[], arith, ◌≡◌, ℕ, ◌+◌, ◌<◌, sym, ap, ◌∙◌, subst, Some, slice_get}
use Rattle.frames.specs.declared.board_rule.BoardView.TheVariants.{Keeper}
use Rattle.board.specs.Boards.{keeper_of, stamp_of, IsKeeper, AreFirst, left_of, first_seat, board_id}
use Rattle.board.proofs.Openings.{opens, splits, next_each}
use Rattle.board.proofs.board.Board.new.Goals as goal

pub of_words-requires : goal.of_words-requires
of_words-requires c = opens (c.args.slots, c.args.places) c.as_slice.result.now (subst (AreFirst c.args.slots c.args.places) (sym c.as_slice.ensures.value) c.in_ok-words.ensures)

pub split_seat-seat-requires : goal.split_seat-seat-requires
split_seat-seat-requires c =
    let i = c.loop-place.invariant in let t = c.in_ok-table.ensures in let low = c.loop-place-test.true in
    let at : (keeper_of c.loop-place.seat.me.0).split ≡ c.loop-place.place = ap (λ u. (keeper_of u).split) i.keeper in
    let is : IsKeeper c.loop-place.seat.me.0 = i.keeper ∙ ap (λ u. Keeper (keeper_of u) [] (stamp_of u)) (sym i.keeper) in
    let wide = c.as_slice.ensures.value in let first = c.in_ok-words.ensures in let len = first.wide in let words = t.0 in
    let key : c.in_ok-table.table.shared.key.1 ≡ c.args.places = ap (λ n. n.1) t.5 in
    (i.table, omega (arith, ap lib.ListN.length wide), splits _ _ _ is (omega arith))

pub loop-place-preserved : goal.loop-place-preserved
loop-place-preserved c =
    let i = c.loop-place.invariant in let t = c.in_ok-table.ensures in let s = c.split_seat-seat.ensures in let p = c.push_reserved.ensures in let z = c.in_ok-table.table.shared.table_id in record {
      table = s.0 ∙ i.table;
      keeper = ap (λ m. m.0) s.2 ∙ ap left_of i.keeper;
      count = omega (arith, p.len, i.count);
      each = subst (λ xs. (k : ℕ) → k < c.loop-place.place + 1 → slice_get xs k ≡ Some (first_seat (board_id z c.args.slots c.args.places) k)) (sym p.items)
          (next_each c.loop-place.seats.items (first_seat (board_id z c.args.slots c.args.places)) c.loop-place.place _ i.count i.each (c.of.ensures ∙ ap (λ w. first_seat (board_id w c.args.slots c.args.places) c.loop-place.place) (s.3 ∙ i.table)));
    }
