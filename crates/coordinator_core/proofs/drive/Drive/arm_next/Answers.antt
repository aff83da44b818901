use Rattle.std.proofs.Common.{◌≡◌, ◌<◌, ◌∙◌, Some, get_or, length, map, rules, sym, ap, subst}
use Rattle.std.specs.Prelude.{slice_get}
use Rattle.std.proofs.Math.Seq.{map-set_same}
use Rattle.coordinator_core.specs.Work.{DriveSeen, ArePending, counted}
use Rattle.coordinator_core.specs.declared.listing.PendingOp.{PendingOp}
use Rattle.coordinator_core.specs.declared.listing.PendingJob.{PendingJob}
use Rattle.coordinator_core.proofs.Pending.{are_get, map_read, next_list}
use Rattle.coordinator_core.proofs.drive.Drive.arm_next.Goals as goal

pub invariant_of-self-2 : goal.invariant_of-self-2
invariant_of-self-2 g c =
    let f : PendingJob g.row.J.Denot → PendingOp = λ u. u.what in
    let items = c.self.inside.list.items in let i = c.self.inside.at in let one = c.index_mut.result.now in
    let here : get_or items i one ≡ one = search rules in
    let stays : f c.put_in.new.pending ≡ f (get_or items i one) = c.put_in.ensures.what ∙ sym (ap f here) in
    subst ArePending (sym (map-set_same f items i c.put_in.new.pending one stays)) c.self.invariant

pub returns-clause-armed : goal.returns-clause-armed
returns-clause-armed g c =
    let f : PendingJob g.row.J.Denot → PendingOp = λ u. u.what in
    let items = c.self.inside.list.items in let i = c.self.inside.at in let one = c.index_mut.result.now in
    let low : i < length items = search rules in let seen : one ≡ get_or items i one = search rules in
    let got : slice_get (map f items) i ≡ Some (f one) = map_read f items i one low seen in
    let did = c.in_ok-receipt.ensures in (
      f one,
      are_get (map f items) i (f one) c.self.invariant got,
      subst (λ (d : DriveSeen). slice_get d.pending d.at ≡ Some (f one)) c.self.view_is got,
      did.as_found.0,
      did.as_found.1,
      did.as_found.2,
      did.armed,
      did.receipt,
      did.there,
    )

pub returns-clause-next : goal.returns-clause-next
returns-clause-next g c =
    let f : PendingJob g.row.J.Denot → PendingOp = λ u. u.what in
    let items = c.self.inside.list.items in let i = c.self.inside.at in let one = c.index_mut.result.now in
    let here : get_or items i one ≡ one = search rules in
    let stays : f c.put_in.new.pending ≡ f (get_or items i one) = c.put_in.ensures.what ∙ sym (ap f here) in
    let next : c.saturating_add-self-inside.result ≡ counted i = search rules in
    next_list _ c.args.self.now _ c.saturating_add-self-inside.result c.self.view_is (map-set_same f items i c.put_in.new.pending one stays) next
