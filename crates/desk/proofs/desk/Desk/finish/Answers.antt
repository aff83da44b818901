use Rattle.std.proofs.Common.{[], ◌∷◌, map, ◌<◌, ◌-◌, sym, ◌≡◌, ◌∙◌, ap, subst, refl, Some, None, rules, true, false, inl, inr}
use Rattle.std.specs.Prelude.{◌&&◌, slice_get}
use Rattle.std.proofs.lemmas.Option.{slice_get_read}
use Rattle.std.proofs.lemmas.Bool.{and_parts}
use Rattle.operations.specs.Names.{is_distinct}
use Rattle.desk.specs.declared.entries.Entry.TheVariants as entry
use Rattle.desk.specs.Machine.{State, Current, Stands, lawful, is_least, is_due, is_live, finished}
use Rattle.desk.specs.Fields.{DeskSeen, current_of, jobs_left, IsIndex, at, Enters}
use Rattle.desk.specs.declared.entries.Opened.{Opened}
use Rattle.desk.specs.JobsFit.{asks_it, is_asked_by}
use Rattle.desk.proofs.Newest.{same_at}
use Rattle.desk.proofs.OpenLists.{asked_at}
use Rattle.desk.proofs.JobsLeft.{set_left}
use Rattle.desk.proofs.Keeping.{Found, Changed, finish_keeps, enters_by, finish_is, finish_not, open_room, due_entry, due_once}
use Rattle.desk.specs.Replies.{of_number, HasLess}
use Rattle.desk.proofs.RoomKept.{same_room}
use Rattle.desk.proofs.Pending.{later_stays}
use Rattle.desk.proofs.RoomSteps.{due_has_room, finish_has_room}
use Rattle.desk.proofs.desk.Desk.finish.Goals as goal

pub returns-in_default-clause-err : goal.returns-in_default-clause-err
returns-in_default-clause-err g c =
    let i = c.self.inside in let m = c.self.invariant in
    let none : IsIndex {J = g.row.J.Denot} c.args.done.op i.opened.items None = search rules in (
      refl,
      inl (subst (λ (d : DeskSeen). lawful (at d) (entry.Finish c.args.done.op c.args.done.target c.args.done.reply) ≡ false) c.self.view_is
          (ap (λ (s : State). lawful s (entry.Finish c.args.done.op c.args.done.target c.args.done.reply)) m.kept.state
          ∙ finish_not c.args.done.op c.args.done.target c.args.done.reply m.kept none)),
      refl,
    )

pub returns-then-not-asks_it-clause-err : goal.returns-then-not-asks_it-clause-err
returns-then-not-asks_it-clause-err g c =
    let i = c.self.inside in let m = c.self.invariant in let o = c.index.result.now in
    let where_is : IsIndex {J = g.row.J.Denot} c.args.done.op i.opened.items (Some c.in-Some.place) = search rules in
    let here : slice_get i.opened.items c.in-Some.place ≡ Some o = slice_get_read i.opened.items _ c.in-Some.place o refl where_is.0 c.index.ensures in
    let other : asks_it c.args.done.ask o.request ≡ false = search rules in (
      refl,
      inr (subst (λ (d : DeskSeen). is_asked_by c.args.done.op c.args.done.ask (at d).opened ≡ false) c.self.view_is
          (ap (λ (s : State). is_asked_by c.args.done.op c.args.done.ask s.opened) m.kept.state ∙ asked_at c.args.done.op c.in-Some.place c.args.done.ask i.opened.items o where_is here ∙ other)),
      refl,
    )

pub returns-then-not-may_finish-clause-err : goal.returns-then-not-may_finish-clause-err
returns-then-not-may_finish-clause-err g c =
    let i = c.self.inside in let m = c.self.invariant in let o = c.index-2.result.now in
    let where_is : IsIndex {J = g.row.J.Denot} c.args.done.op i.opened.items (Some c.in-Some.place) = search rules in
    let here : slice_get i.opened.items c.in-Some.place ≡ Some o = slice_get_read i.opened.items _ c.in-Some.place o refl where_is.0 c.index-2.ensures in
    let found : Found i.opened.items c.args.done.op o = record { place = c.in-Some.place; index = where_is; here = here } in
    let not_due : false ≡ (is_due c.args.done.target (current_of o) && is_live c.args.done.target i.live.items) = search rules in (
      refl,
      inl (subst (λ (d : DeskSeen). lawful (at d) (entry.Finish c.args.done.op c.args.done.target c.args.done.reply) ≡ false) c.self.view_is
          (ap (λ (s : State). lawful s (entry.Finish c.args.done.op c.args.done.target c.args.done.reply)) m.kept.state
          ∙ finish_is c.args.done.target c.args.done.reply false _ m.kept found not_due refl)),
      refl,
    )

pub finish_at-requires : goal.finish_at-requires
finish_at-requires g c =
    let i = c.self.inside in let m = c.self.invariant in let o = c.index-2.result.now in
    let where_is : IsIndex {J = g.row.J.Denot} c.args.done.op i.opened.items (Some c.in-Some.place) = search rules in
    let here : slice_get i.opened.items c.in-Some.place ≡ Some o = slice_get_read i.opened.items _ c.in-Some.place o refl where_is.0 c.index-2.ensures in
    let found : Found i.opened.items c.args.done.op o = record { place = c.in-Some.place; index = where_is; here = here } in
    let due : (is_due c.args.done.target (current_of o) && is_live c.args.done.target i.live.items) ≡ true = search rules in
    let both = and_parts (is_due c.args.done.target (current_of o)) (is_live c.args.done.target i.live.items) due in
    let room = open_room m.kept found in
    let low : 0 < o.left = due_entry c.args.done.target (current_of o) both.0 room.0 in
    let once : is_distinct o.due.items ≡ true = due_once m.kept found in
    (where_is.0, λ x there. subst (λ (y : Opened g.row.J.Denot). (0 < y.left) × (is_distinct y.due.items ≡ true)) (same_at i.opened.items c.in-Some.place o x here there) (low, once))

pub invariant_of-self : goal.invariant_of-self
invariant_of-self g c =
    let i = c.self.inside in let m = c.self.invariant in let o = c.index-2.result.now in
    let where_is : IsIndex {J = g.row.J.Denot} c.args.done.op i.opened.items (Some c.in-Some.place) = search rules in
    let here : slice_get i.opened.items c.in-Some.place ≡ Some o = slice_get_read i.opened.items _ c.in-Some.place o refl where_is.0 c.index-2.ensures in
    let found : Found i.opened.items c.args.done.op o = record { place = c.in-Some.place; index = where_is; here = here } in
    let made = c.finish_at.ensures.step o here in
    let due : (is_due c.args.done.target (current_of o) && is_live c.args.done.target i.live.items) ≡ true = search rules in
    let least : is_least c.args.done.op c.args.done.target (map (current_of {J = g.row.J.Denot}) i.opened.items) ≡ true = search rules in
    let both = and_parts (is_due c.args.done.target (current_of o)) (is_live c.args.done.target i.live.items) due in
    let changed : Changed (finished c.args.done.target) c.args.done.op i.opened.items c.finish_at.new.opened.items o = record { found = found; made = made.0; set = made.2; is = made.1 ∙ ap (λ t. finished t (current_of o)) c.target-3.ensures } in
    let k = finish_keeps c.enter_finish.new.self.book c.args.done.op c.args.done.target c.args.done.reply c.finish_at.new.opened.items m.kept changed both.0 both.1 least (search rules) c.enter_finish.ensures.reserved in
    let less = subst (λ n. HasLess (n - i.log.book.gone.operations) i.log.lists c.enter_finish.new.self.lists) c.op-3.ensures c.enter_finish.ensures.rooms in
    record {
      kept = k;
      carried = m.carried;
      few = search rules;
      capacity = search rules;
      places = m.places;
      named = m.named;
      replies = same_room (finish_has_room c.args.done.target c.finish_at.new.opened.items c.enter_finish.new.self.lists m changed both.0 c.enter_finish.ensures.count less) refl (search rules);
      pending = later_stays (entry.Finish c.args.done.op c.args.done.target c.args.done.reply ∷ []) m.kept k refl refl (search rules) (search rules) m.pending;
    }

pub enter_finish-requires-clause-room : goal.enter_finish-requires-clause-room
enter_finish-requires-clause-room g c =
    let i = c.self.inside in let m = c.self.invariant in let o = c.index-2.result.now in
    let where_is : IsIndex {J = g.row.J.Denot} c.args.done.op i.opened.items (Some c.in-Some.place) = search rules in
    let here : slice_get i.opened.items c.in-Some.place ≡ Some o = slice_get_read i.opened.items _ c.in-Some.place o refl where_is.0 c.index-2.ensures in
    let found : Found i.opened.items c.args.done.op o = record { place = c.in-Some.place; index = where_is; here = here } in
    let due : (is_due c.args.done.target (current_of o) && is_live c.args.done.target i.live.items) ≡ true = search rules in
    let both = and_parts (is_due c.args.done.target (current_of o)) (is_live c.args.done.target i.live.items) due in
    subst (λ n. 0 < (of_number (n - i.log.book.gone.operations) i.log.lists).room) (sym c.op-3.ensures) (due_has_room c.args.done.target m found both.0)

pub returns-clause-ok : goal.returns-clause-ok
returns-clause-ok g c =
    let i = c.self.inside in let m = c.self.invariant in let o = c.index-2.result.now in
    let where_is : IsIndex {J = g.row.J.Denot} c.args.done.op i.opened.items (Some c.in-Some.place) = search rules in
    let here : slice_get i.opened.items c.in-Some.place ≡ Some o = slice_get_read i.opened.items _ c.in-Some.place o refl where_is.0 c.index-2.ensures in
    let found : Found i.opened.items c.args.done.op o = record { place = c.in-Some.place; index = where_is; here = here } in
    let due : true ≡ (is_due c.args.done.target (current_of o) && is_live c.args.done.target i.live.items) = search rules in
    let least : is_least c.args.done.op c.args.done.target (map (current_of {J = g.row.J.Denot}) i.opened.items) ≡ true = search rules in
    let is : record { book = i.log.book; slots = i.codes.table.slots; methods = i.codes.table.methods; keeper = i.codes.keeper; jobs = map (jobs_left g.J.HandshakeOp.whom) i.opened.items } ≡ c.args.self.now = c.self.view_is in
    let new : DeskSeen = record { book = c.enter_finish.new.self.book; slots = i.codes.table.slots; methods = i.codes.table.methods; keeper = i.codes.keeper; jobs = map (jobs_left g.J.HandshakeOp.whom) c.finish_at.new.opened.items } in
    let entered : Enters c.args.self.now new (entry.Finish c.args.done.op c.args.done.target c.args.done.reply) c.enter_finish.result =
    subst (λ (d : DeskSeen). Enters d (record { book = c.enter_finish.new.self.book; slots = i.codes.table.slots; methods = i.codes.table.methods; keeper = i.codes.keeper; jobs = map (jobs_left g.J.HandshakeOp.whom) c.finish_at.new.opened.items }) (entry.Finish c.args.done.op c.args.done.target c.args.done.reply) c.enter_finish.result) is
    (enters_by _ (entry.Finish c.args.done.op c.args.done.target c.args.done.reply) m.kept.state
    (finish_is c.args.done.target c.args.done.reply true true m.kept found due (sym least))
    (search rules) (search rules) (search rules) refl refl) in
    subst (λ (r : Stands). Enters c.args.self.now new (entry.Finish c.args.done.op c.args.done.target c.args.done.reply) r) (sym c.of.ensures.stands) entered

pub returns-clause-jobs : goal.returns-clause-jobs
returns-clause-jobs g c =
    let i = c.self.inside in let o = c.index-2.result.now in
    let where_is : IsIndex {J = g.row.J.Denot} c.args.done.op i.opened.items (Some c.in-Some.place) = search rules in
    let here : slice_get i.opened.items c.in-Some.place ≡ Some o = slice_get_read i.opened.items _ c.in-Some.place o refl where_is.0 c.index-2.ensures in
    let made = c.finish_at.ensures.step o here in
    ap (map (jobs_left g.J.HandshakeOp.whom)) made.2 ∙ set_left g.J.HandshakeOp.whom c.in-Some.place i.opened.items o made.0 here made.3 (ap (λ (x : Current). x.number) made.1) ∙ ap (λ (d : DeskSeen). d.jobs) c.self.view_is

pub returns-clause-asked : goal.returns-clause-asked
returns-clause-asked g c =
    let i = c.self.inside in let m = c.self.invariant in let o = c.index.result.now in
    let where_is : IsIndex {J = g.row.J.Denot} c.args.done.op i.opened.items (Some c.in-Some.place) = search rules in
    let here : slice_get i.opened.items c.in-Some.place ≡ Some o = slice_get_read i.opened.items _ c.in-Some.place o refl where_is.0 c.index.ensures in
    let same : asks_it c.args.done.ask o.request ≡ true = search rules in
    subst (λ (d : DeskSeen). is_asked_by c.args.done.op c.args.done.ask (at d).opened ≡ true) c.self.view_is
    (ap (λ (s : State). is_asked_by c.args.done.op c.args.done.ask s.opened) m.kept.state ∙ asked_at c.args.done.op c.in-Some.place c.args.done.ask i.opened.items o where_is here ∙ same)
