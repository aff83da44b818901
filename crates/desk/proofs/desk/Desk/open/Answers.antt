use Rattle.std.proofs.Common.{[], ◌∷◌, ◌≡◌, ◌+◌, length, refl, rules, arith}
use Rattle.std.specs.Prelude.{vec_len}
use Rattle.desk.proofs.OpenLists.{few_open}
use Rattle.desk.proofs.Keeping.{open_keeps}
use Rattle.desk.specs.declared.entries.Entry.TheVariants as entry
use Rattle.desk.proofs.RoomKept.{same_room}
use Rattle.desk.proofs.Pending.{later_stays}
use Rattle.desk.proofs.RoomSteps.{open_has_room}
use Rattle.desk.proofs.desk.Desk.open.Goals as goal

pub invariant_of-self-2 : goal.invariant_of-self-2
invariant_of-self-2 g c =
    let i = c.self.inside in let m = c.self.invariant in let w = c.in-Some.first in
    let k = open_keeps g.J.HandshakeOp.whom c.enter.new.self.book c.pop.new.self c.push_reserved.new.self.items w _ m.kept m.carried (search rules) c.in-Some.ensures.oldest c.push_reserved.ensures.items
    (record { number = refl; request = refl; before = refl; left = search rules; due = search rules; operated = refl }) c.enter.ensures.history c.enter.ensures.reserved in
    let r = open_has_room c.pop.new.self c.push_reserved.new.self.items w _ m c.in-Some.ensures.oldest c.push_reserved.ensures.items refl (search rules) in
    let few = few_open i.queue i.opened.items (search rules) in
    let old : vec_len i.opened ≡ length i.opened.items = search rules in
    let new : vec_len c.push_reserved.new.self ≡ vec_len i.opened + 1 = search rules in
    record {
      kept = k.0;
      carried = k.1;
      few = omega arith;
      capacity = search rules;
      places = m.places;
      named = m.named;
      replies = same_room r (search rules) (search rules);
      pending = later_stays (entry.Open w.number ∷ []) m.kept k.0 refl refl (search rules) (search rules) m.pending;
    }
