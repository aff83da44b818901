use Rattle.std.proofs.Common.{◌≡◌, ◌<◌, ◌≤◌, Some, None, get_or, length, map, rules, sym, subst}
use Rattle.std.specs.Prelude.{slice_get}
use Rattle.std.proofs.lemmas.List.{length-map}
use Rattle.std.proofs.lemmas.Option.{slice_get_past}
use Rattle.coordinator_core.specs.Work.{DriveSeen}
use Rattle.coordinator_core.specs.declared.listing.PendingOp.{PendingOp}
use Rattle.coordinator_core.specs.declared.listing.PendingJob.{PendingJob}
use Rattle.coordinator_core.proofs.Pending.{are_get, map_read}
use Rattle.coordinator_core.proofs.drive.Drive.next_pending.Goals as goal

pub returns-then-self-len-clause-found : goal.returns-then-self-len-clause-found
returns-then-self-len-clause-found g c =
    let f : PendingJob g.row.J.Denot → PendingOp = λ u. u.what in
    let one = c.index.result.now in
    let items = c.self.inside.list.items in let i = c.self.inside.at in
    let low : i < length items = search rules in let here : one ≡ get_or items i one = search rules in
    let got : slice_get (map f items) i ≡ Some (f one) = map_read f items i one low here in
    are_get (map f items) i (f one) c.self.invariant got

pub returns-else-self-len-clause-next : goal.returns-else-self-len-clause-next
returns-else-self-len-clause-next g c =
    let f : PendingJob g.row.J.Denot → PendingOp = λ u. u.what in
    let items = c.self.inside.list.items in let i = c.self.inside.at in
    let short : length items ≤ i = search rules in
    let past : slice_get (map f items) i ≡ None = slice_get_past (map f items) i (subst (λ n. n ≤ i) (sym (length-map items f)) short) in
    sym (subst (λ (d : DriveSeen). slice_get d.pending d.at ≡ None) c.self.view_is past)
