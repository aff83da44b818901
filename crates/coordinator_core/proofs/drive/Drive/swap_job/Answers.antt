use Rattle.std.proofs.Common.{◌≡◌, get_or, rules, sym, ap, subst}
use Rattle.std.proofs.Math.Seq.{map-set_same}
use Rattle.coordinator_core.specs.Work.{ArePending}
use Rattle.coordinator_core.specs.declared.listing.PendingOp.{PendingOp}
use Rattle.coordinator_core.specs.declared.listing.PendingJob.{PendingJob}
use Rattle.coordinator_core.proofs.Pending.{same_list}
use Rattle.coordinator_core.proofs.drive.Drive.swap_job.Goals as goal

pub invariant_of-self : goal.invariant_of-self
invariant_of-self g c =
    let f : PendingJob g.row.J.Denot → PendingOp = λ u. u.what in
    let items = c.self.inside.list.items in let i = c.self.inside.at in let one = c.index_mut.result.now in
    let here : get_or items i one ≡ one = search rules in
    subst ArePending (sym (map-set_same f items i record { what = one.what; job = c.replace.new.dest } one (sym (ap f here)))) c.self.invariant

pub returns : goal.returns
returns g c =
    let f : PendingJob g.row.J.Denot → PendingOp = λ u. u.what in
    let items = c.self.inside.list.items in let i = c.self.inside.at in let one = c.index_mut.result.now in
    let here : get_or items i one ≡ one = search rules in
    same_list _ c.args.self.now _ c.self.view_is (map-set_same f items i record { what = one.what; job = c.replace.new.dest } one (sym (ap f here)))
