use Rattle.std.proofs.Common.{arith, ◌≡◌, ℕ, ◌+◌, ◌<◌, [], ◌∷◌, ◌++◌, length, length-set, length-append, sym, ap, ◌∙◌, subst, Some, slice_get, slice_index, refl}
use Rattle.std.proofs.lemmas.Option.{slice_get_within}
use Rattle.std.specs.Slots.{slots_items}
use Rattle.thread_state.specs.PollRule.{IsPlaceKept}
use Rattle.poll.specs.declared.views.Watch.TheVariants.{Armer}
use Rattle.poll.specs.Rows.{arming_of, ended_of, both_of, PollerSeen, stamp_of}
use Rattle.poll.proofs.Seats.{joins, one_taken, one_ended, still_there, last_there, leaves, AreEnded}
use Rattle.poll.proofs.row.PollRow.close.Goals as goal

-- the poller that is taken out is the last one of those that are left
pub join_seat-requires : goal.join_seat-requires
join_seat-requires c =
    let i = c.loop-poller.invariant in let words = c.self.invariant.0 in let mine = c.poller.invariant in
    let same : c.armer.inside.seat.table_id ≡ c.self.inside.table.shared.table_id = ap (λ t. t.table) c.armer.view_is ∙ (c.requires.armer ∙ sym c.self.view_is) in
    let items : c.loop-poller.pollers.items ≡ c.pop.new.self.items ++ c.in-Some.poller ∷ [] = c.in-Some.ensures.items in
    let there = i.rest (length c.pop.new.self.items) c.in-Some.poller (subst (λ xs. slice_get xs (length c.pop.new.self.items) ≡ Some c.in-Some.poller) (sym items) (last_there c.pop.new.self.items c.in-Some.poller _ refl)) in
    let it = c.requires.pollers (length c.pop.new.self.items) c.in-Some.poller there in
    (i.table ∙ same, ap (λ t. t.table) c.poller.view_is ∙ (it.0 ∙ sym c.self.view_is), mine.1, omega arith, joins _ _ _ _ _ i.closing mine.0)

pub loop-poller-preserved : goal.loop-poller-preserved
loop-poller-preserved c =
    let i = c.loop-poller.invariant in let j = c.join_seat.ensures in
    let n : ℕ = length c.pop.new.self.items in
    let items : c.loop-poller.pollers.items ≡ c.pop.new.self.items ++ c.in-Some.poller ∷ [] = c.in-Some.ensures.items in
    let long : length c.loop-poller.pollers.items ≡ n + 1 = ap length items ∙ length-append c.pop.new.self.items (c.in-Some.poller ∷ []) in
    let there = i.rest n c.in-Some.poller (subst (λ xs. slice_get xs n ≡ Some c.in-Some.poller) (sym items) (last_there c.pop.new.self.items c.in-Some.poller n refl)) in
    let it = c.requires.pollers n c.in-Some.poller there in
    let after : c.join_seat.new.seat.me.0 ≡ both_of c.loop-poller.seat.me.0 c.poller.inside.seat.me.0 = ap (λ m. m.0) j.2 in record {
      table = j.0 ∙ i.table;
      closing = after ∙ sym (ap (λ v. Armer (arming_of v) (ended_of v) (stamp_of v)) after);
      armed = ap arming_of after ∙ i.armed;
      rest = λ k p e. i.rest k p (subst (λ xs. slice_get xs k ≡ Some p) (sym items) (still_there c.pop.new.self.items c.in-Some.poller p k e));
      ended = subst (λ v. AreEnded (ended_of v) n c.args.pollers.items) (sym after)
          (subst (λ (t : PollerSeen). AreEnded ((t.seen.place, t.seen.cleared) ∷ ended_of c.loop-poller.seat.me.0) n c.args.pollers.items) (sym c.poller.view_is)
          (one_ended (ended_of c.loop-poller.seat.me.0) n c.args.pollers.items c.in-Some.poller there it.1 (subst (λ m. AreEnded (ended_of c.loop-poller.seat.me.0) m c.args.pollers.items) long i.ended)));
    }

pub loop-place-preserved : goal.loop-place-preserved
loop-place-preserved c = let i = c.loop-place.invariant in let low = c.loop-place-test.true in let long = c.len-place-end.ensures in record {
  count = length-set c.loop-place.last.items c.loop-place.place c.word.result ∙ i.count;
  taken = one_taken c.loop-place.last.items (slots_items c.close_with-closed.result.words) c.loop-place.place c.word_at.result c.word.result (omega arith) i.taken c.word_at.ensures c.word.ensures;
}

pub returns-clause-kept : goal.returns-clause-kept
returns-clause-kept c k p there =
    let i = c.loop-place.invariant in let j = c.loop-poller.invariant in let mine = c.armer.invariant in let over = c.loop-place-test.false in let long = c.len-place-end.ensures in
    let empty = c.in_default.ensures.cases in let none : length c.loop-poller.pollers.items ≡ 0 = omega arith in
    let armed : arming_of c.loop-poller.seat.me.0 ≡ c.args.armer.seen = j.armed ∙ ap (λ t. t.seen) c.armer.view_is in
    let count : length c.loop-place.last.items ≡ length (arming_of c.loop-poller.seat.me.0).armed = i.count ∙ (ap length mine.1 ∙ sym (ap (λ a. length a.armed) j.armed)) in
    let low : k < length c.args.pollers.items = slice_get_within c.args.pollers.items k p there in
    let given = c.requires.count in let many : length c.args.pollers.items ≡ length c.args.armer.seen.armed = omega arith in
    let wide : length (arming_of c.loop-poller.seat.me.0).armed ≡ length c.args.armer.seen.armed = ap (λ a. length a.armed) armed in
    subst (λ a. IsPlaceKept record { word = slice_index c.loop-place.last.items p.seen.place; armed = slice_index a.armed p.seen.place; cleared = p.seen.cleared }) armed
    (leaves c.self.inside.table.shared.key c.loop-poller.seat.id c.loop-poller.seat.me.0 (slots_items c.close_with-closed.result.words) c.loop-place.last.items _ c.args.pollers.items
    j.closing c.close_with-closed.ensures.values.2 count (λ m h. i.taken m (omega arith)) (subst (λ m. AreEnded (ended_of c.loop-poller.seat.me.0) m c.args.pollers.items) none j.ended)
    k p there (omega arith) (c.requires.pollers k p there).1)
