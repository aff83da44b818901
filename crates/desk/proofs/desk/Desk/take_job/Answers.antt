use Rattle.std.proofs.Common.{◌≡◌, ◌≤◌, ◌<◌, ◌∙◌, List, length, map, true, false, Some, None, sym, ap, subst, rules, arith}
use Rattle.std.specs.Prelude.{vec_len}
use Rattle.operations.specs.Names.{among}
use Rattle.desk.specs.Machine.{Current, State, is_open}
use Rattle.desk.specs.Fields.{DeskSeen, at, asked_of, current_of, jobs_left, IsIndex}
use Rattle.desk.specs.JobsFit.{has_job, job_taken}
use Rattle.desk.specs.Replies.{HaveRoom}
use Rattle.desk.proofs.OpenLists.{open_at, open_is, fit_of, there_at}
use Rattle.desk.proofs.JobsLeft.{left_at, left_not, taken_at, taken_not, set_same, some_also, some_then, some_has, none_then}
use Rattle.desk.specs.Pending.{first_waiting, least_open}
use Rattle.desk.proofs.Keeping.{same_keeps}
use Rattle.desk.proofs.desk.Desk.take_job.Goals as goal

pub returns-in_default-clause-none : goal.returns-in_default-clause-none
returns-in_default-clause-none g c =
    let i = c.self.inside in
    let none : IsIndex {J = g.row.J.Denot} c.args.number i.opened.items None = search rules in
    subst (λ (d : DeskSeen). has_job c.args.number c.args.name d.jobs ≡ false) c.self.view_is (ap (among c.args.name) (left_not g.J.HandshakeOp.whom c.args.number i.opened.items none))

pub returns-in_default-clause-left : goal.returns-in_default-clause-left
returns-in_default-clause-left g c =
    let i = c.self.inside in
    let none : IsIndex {J = g.row.J.Denot} c.args.number i.opened.items None = search rules in
    subst (λ (d : DeskSeen). d.jobs ≡ job_taken c.args.number c.args.name d.jobs) c.self.view_is (sym (taken_not g.J.HandshakeOp.whom c.args.number c.args.name i.opened.items none))

pub invariant_of-self : goal.invariant_of-self
invariant_of-self g c =
    let i = c.self.inside in let m = c.self.invariant in
    let where_is : IsIndex {J = g.row.J.Denot} c.args.number i.opened.items (Some c.in-Some.place) = search rules in
    let o = there_at i.opened.items c.in-Some.place where_is.0 in
    let made = c.job_of.ensures.step o.0 o.1 in
    let same : map (current_of {J = g.row.J.Denot}) c.job_of.new.opened.items ≡ map current_of i.opened.items = ap (map current_of) made.2 ∙ set_same c.in-Some.place i.opened.items o.0 made.0 o.1 made.1 in
    let few : vec_len i.opened ≤ 4 = m.few in
    let room = c.job_of.ensures.room in
    let old : vec_len i.opened ≡ length i.opened.items = search rules in
    let new : vec_len c.job_of.new.opened ≡ length c.job_of.new.opened.items = search rules in
    record {
      kept = same_keeps c.job_of.new.opened.items m.kept same;
      carried = m.carried;
      few = omega (arith, room.0);
      capacity = search rules;
      places = m.places;
      named = m.named;
      replies = subst (λ (cs : List Current). HaveRoom i.log.book.gone i.next_number (map asked_of i.queue) cs i.log.lists) (sym same) m.replies;
      pending = subst (λ (cs : List Current). i.log.book.gone.operations < least_open (first_waiting i.next_number (map asked_of i.queue)) cs) (sym same) m.pending;
    }

pub returns-clause-some : goal.returns-clause-some
returns-clause-some g c =
    let i = c.self.inside in let m = c.self.invariant in
    let where_is : IsIndex {J = g.row.J.Denot} c.args.number i.opened.items (Some c.in-Some.place) = search rules in
    let o = there_at i.opened.items c.in-Some.place where_is.0 in
    let number : o.0.number ≡ c.args.number = where_is.2 o.0 o.1 in
    let low : 0 < o.0.number = (fit_of c.args.number (map current_of i.opened.items) (current_of o.0) m.kept.fit (open_at c.args.number c.in-Some.place i.opened.items o.0 where_is o.1)).0 in
    some_also _ _ c.job_of.result (λ j h. (h.0, h.1 o.0 o.1 ∙ number, subst (λ n. 0 < n) number low)) c.job_of.ensures.job

pub returns-clause-open : goal.returns-clause-open
returns-clause-open g c =
    let i = c.self.inside in let m = c.self.invariant in
    let where_is : IsIndex {J = g.row.J.Denot} c.args.number i.opened.items (Some c.in-Some.place) = search rules in
    let o = there_at i.opened.items c.in-Some.place where_is.0 in
    some_has c.job_of.result
    (subst (λ (d : DeskSeen). is_open c.args.number (at d).opened ≡ true) c.self.view_is
    (ap (λ (s : State). is_open c.args.number s.opened) m.kept.state ∙ open_is c.args.number c.in-Some.place i.opened.items o.0 where_is o.1))

pub returns-clause-there : goal.returns-clause-there
returns-clause-there g c =
    let i = c.self.inside in
    let where_is : IsIndex {J = g.row.J.Denot} c.args.number i.opened.items (Some c.in-Some.place) = search rules in
    let o = there_at i.opened.items c.in-Some.place where_is.0 in
    some_then c.job_of.result
    (λ h. subst (λ (d : DeskSeen). has_job c.args.number c.args.name d.jobs ≡ true) c.self.view_is
    (ap (among c.args.name) (left_at g.J.HandshakeOp.whom c.args.number c.in-Some.place i.opened.items o.0 where_is o.1) ∙ h o.0 o.1))
    c.job_of.ensures.some

pub returns-clause-none : goal.returns-clause-none
returns-clause-none g c =
    let i = c.self.inside in
    let where_is : IsIndex {J = g.row.J.Denot} c.args.number i.opened.items (Some c.in-Some.place) = search rules in
    let o = there_at i.opened.items c.in-Some.place where_is.0 in
    none_then c.job_of.result
    (λ h. subst (λ (d : DeskSeen). has_job c.args.number c.args.name d.jobs ≡ false) c.self.view_is
    (ap (among c.args.name) (left_at g.J.HandshakeOp.whom c.args.number c.in-Some.place i.opened.items o.0 where_is o.1) ∙ h o.0 o.1))
    c.job_of.ensures.none

pub returns-clause-left : goal.returns-clause-left
returns-clause-left g c =
    let i = c.self.inside in
    let where_is : IsIndex {J = g.row.J.Denot} c.args.number i.opened.items (Some c.in-Some.place) = search rules in
    let o = there_at i.opened.items c.in-Some.place where_is.0 in
    let made = c.job_of.ensures.step o.0 o.1 in
    subst (λ (d : DeskSeen). map (jobs_left g.J.HandshakeOp.whom) c.job_of.new.opened.items ≡ job_taken c.args.number c.args.name d.jobs) c.self.view_is
    (ap (map (jobs_left g.J.HandshakeOp.whom)) made.2
    ∙ taken_at g.J.HandshakeOp.whom c.args.number c.args.name c.in-Some.place i.opened.items o.0 made.0 where_is o.1 (ap (λ (x : Current). x.number) made.1) made.3)
