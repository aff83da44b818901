use Rattle.std.proofs.Common.{[], ◌∷◌, map, ap, ◌∙◌, ◌≡◌, refl, true, Some, rules, sym, subst}
use Rattle.std.specs.Prelude.{slice_get}
use Rattle.std.proofs.lemmas.Option.{slice_get_read}
use Rattle.operations.specs.Requests.{is_census}
use Rattle.desk.specs.Machine.{Current, State, as_operated}
use Rattle.desk.specs.Fields.{DeskSeen, at, jobs_left}
use Rattle.desk.specs.Refusals.{MayOperate}
use Rattle.desk.proofs.JobsLeft.{set_left}
use Rattle.desk.proofs.OpenLists.{first_index, front_there}
use Rattle.desk.proofs.Keeping.{Found, Changed, operate_keeps, may_operate_is}
use Rattle.desk.specs.declared.entries.Entry.TheVariants as entry
use Rattle.desk.proofs.RoomKept.{same_room}
use Rattle.desk.proofs.Pending.{later_stays}
use Rattle.desk.proofs.RoomSteps.{operate_has_room}
use Rattle.desk.proofs.desk.Desk.operate.Goals as goal

pub index-requires : goal.index-requires
index-requires g c =
    let i = c.self.inside in let m = c.self.invariant in
    let seen = sym (ap (λ (d : DeskSeen). at d) c.self.view_is) ∙ m.kept.state in
    let may = subst (λ (s : State). MayOperate s c.args.bodies.now) seen c.in_default.ensures in
    let low = front_there (λ (x : Current). is_census x.request) true i.opened.items may.0 in
    search rules

pub invariant_of-self : goal.invariant_of-self
invariant_of-self g c =
    let i = c.self.inside in let m = c.self.invariant in let o = c.index.result.now in
    let seen = sym (ap (λ (d : DeskSeen). at d) c.self.view_is) ∙ m.kept.state in
    let may = subst (λ (s : State). MayOperate s c.args.bodies.now) seen c.in_default.ensures in
    let low = front_there (λ (x : Current). is_census x.request) true i.opened.items may.0 in
    let here : slice_get i.opened.items 0 ≡ Some o = slice_get_read i.opened.items _ 0 o refl low c.index.ensures in
    let made = c.operate_at.ensures.step o here in
    let found : Found i.opened.items o.number o = record { place = 0; index = first_index i.opened.items o here low; here = here } in
    let changed : Changed as_operated o.number i.opened.items c.operate_at.new.opened.items o = record { found = found; made = made.0; set = made.2; is = made.1 } in
    let k = operate_keeps c.enter.new.self.book o.number c.operate_at.new.opened.items m.kept changed (may_operate_is i.opened.items o may.0 may.1 here) (search rules) c.enter.ensures.reserved in
    record {
      kept = k;
      carried = m.carried;
      few = search rules;
      capacity = search rules;
      places = m.places;
      named = m.named;
      replies = same_room (operate_has_room c.operate_at.new.opened.items m changed) (search rules) (search rules);
      pending = later_stays (entry.Operate o.number ∷ []) m.kept k refl refl (search rules) (search rules) m.pending;
    }

pub returns-clause-jobs : goal.returns-clause-jobs
returns-clause-jobs g c =
    let i = c.self.inside in let m = c.self.invariant in let o = c.index.result.now in
    let seen = sym (ap (λ (d : DeskSeen). at d) c.self.view_is) ∙ m.kept.state in
    let may = subst (λ (s : State). MayOperate s c.args.bodies.now) seen c.in_default.ensures in
    let low = front_there (λ (x : Current). is_census x.request) true i.opened.items may.0 in
    let here : slice_get i.opened.items 0 ≡ Some o = slice_get_read i.opened.items _ 0 o refl low c.index.ensures in
    let made = c.operate_at.ensures.step o here in
    ap (map (jobs_left g.J.HandshakeOp.whom)) made.2 ∙ set_left g.J.HandshakeOp.whom 0 i.opened.items o made.0 here made.3 (ap (λ (x : Current). x.number) made.1) ∙ ap (λ (d : DeskSeen). d.jobs) c.self.view_is
