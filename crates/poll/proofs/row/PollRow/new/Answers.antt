use Rattle.std.proofs.Common.{arith, ◌≡◌, ℕ, ◌+◌, ◌<◌, sym, ap, ◌∙◌, subst, Some, slice_get, replicate, []}
use Rattle.poll.specs.declared.views.Watch.TheVariants.{Armer}
use Rattle.poll.specs.Rows.{arming_of, watching_of, IsArmer, left_of, right_of, first_poller, stamp_of}
use Rattle.poll.proofs.Seats.{opens, splits, next_each}
use Rattle.poll.proofs.row.PollRow.new.Goals as goal

pub of_words-requires : goal.of_words-requires
of_words-requires c = opens c.args.places c.as_slice.result.now (c.as_slice.ensures.value ∙ (c.in_ok-words.ensures.items_if_clones_equal (λ y e. e) ∙ ap (λ n. replicate n 0) c.words_of.ensures))

pub split_seat-seat-requires : goal.split_seat-seat-requires
split_seat-seat-requires c =
    let i = c.loop-place.invariant in let t = c.in_ok-table.ensures in let low = c.loop-place-test.true in
    let at : (arming_of c.loop-place.seat.me.0).split ≡ c.loop-place.place = ap (λ u. (arming_of u).split) i.armer in
    let is : IsArmer c.loop-place.seat.me.0 = i.armer ∙ ap (λ u. Armer (arming_of u) [] (stamp_of u)) (sym i.armer) in
    let wide = c.as_slice.ensures.len in let len = c.in_ok-words.ensures.len in let count = c.words_of.ensures in let key = t.5 in let words = t.0 in let some_place = c.requires.0 in
    (i.table, omega arith, splits _ _ _ is (omega arith))

pub loop-place-preserved : goal.loop-place-preserved
loop-place-preserved c =
    let i = c.loop-place.invariant in let t = c.in_ok-table.ensures in let s = c.split_seat-seat.ensures in let p = c.push_reserved.ensures in record {
      table = s.0 ∙ i.table;
      armer = ap (λ m. m.0) s.2 ∙ ap left_of i.armer;
      count = omega (arith, p.len, i.count);
      each = subst (λ xs. (k : ℕ) → k < c.loop-place.place + 1 → slice_get xs k ≡ Some (first_poller c.in_ok-table.table.shared.table_id k)) (sym p.items)
          (next_each c.loop-place.pollers.items (first_poller c.in_ok-table.table.shared.table_id) c.loop-place.place _ i.count i.each
          (λ j. record { table = (s.3 ∙ i.table) j; seen = watching_of 0 ((ap (λ m. m.0) s.4 ∙ ap right_of i.armer) j); stamp = stamp_of ((ap (λ m. m.0) s.4 ∙ ap right_of i.armer) j) }));
    }
