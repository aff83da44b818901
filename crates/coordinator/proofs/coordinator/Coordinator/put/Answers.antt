use Rattle.std.proofs.Common.{◌≡◌, length, ap, rules, subst}
use Rattle.thread_state.specs.declared.poll_rule.Arming.{Arming}
use Rattle.poll.specs.Rows.{ArmerSeen}
use Rattle.stopped_threads.specs.Holding.{ArmsOn}
use Rattle.desk.proofs.JobsLeft.{none_then}
use Rattle.coordinator_core.proofs.Arms.{arms_put}
use Rattle.coordinator.proofs.coordinator.Coordinator.put.Goals as goal

pub returns-clause-arms : goal.returns-clause-arms
returns-clause-arms g c =
    let what = c.args.pending.now.what in
    let before = c.self-2.inside.armer.seen in
    let after = c.put_in.new.armer.seen in
    let same : before ≡ c.args.self.now.armer = search rules in
    let all : c.self-2.inside.places ≡ length before.armed = search rules in
    let refused = none_then c.put_in.result (λ no. ap (λ (a : ArmerSeen). a.seen) no.0) c.put_in.ensures.refused in
    subst (λ (a : Arming). ArmsOn a after) same
    (arms_put c.put_in.result before after c.self-2.inside.places what.target.place what.last what.number all c.put_in.ensures.armed c.put_in.ensures.as_found refused)
