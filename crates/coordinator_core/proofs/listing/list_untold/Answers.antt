use Rattle.std.proofs.Common.{rules, ◌≡◌, Some, None, map, take, vec_capacity, sym, ap, subst, ◌∙◌}
use Rattle.std.proofs.Math.Seq.{take-nil}
use Rattle.desk.specs.Fields.{at}
use Rattle.desk.specs.Targets.{open_kind, only_handshake}
use Rattle.coordinator_core.specs.Telling.{tellings, kind_told, any_more, due_in, AreAskedAlone}
use Rattle.coordinator_core.specs.declared.listing.PendingOp.{PendingOp}
use Rattle.coordinator_core.specs.declared.listing.PendingJob.{PendingJob}
use Rattle.coordinator_core.proofs.Alone.{due_asked}
use Rattle.coordinator_core.proofs.Tellings.{none_due}
use Rattle.coordinator_core.proofs.listing.list_untold.Goals as goal

pub returns-in_default-clause-due : goal.returns-in_default-clause-due
returns-in_default-clause-due g c =
    let s = at c.args.desk.now in
    let none : open_kind s ≡ None = search rules in
    c.clear.ensures.items ∙ sym (ap (take (vec_capacity c.args.due.now)) (none_due s none) ∙ take-nil (vec_capacity c.args.due.now))

pub returns-in_default-clause-all : goal.returns-in_default-clause-all
returns-in_default-clause-all g c =
    let s = at c.args.desk.now in let armer = c.args.armer.now.seen in
    let none : open_kind s ≡ None = search rules in
    let f : PendingJob g.row.J.Denot → PendingOp = λ u. u.what in
    λ _. (
      c.clear.ensures.items ∙ sym (none_due s none),
      ap (map f) c.clear-2.ensures.items ∙ sym (ap (tellings s (kind_told s) armer) c.clear.ensures.items),
      ap (any_more s (kind_told s) armer) c.clear.ensures.items,
    )

pub list_alone-more-requires-clause-asked : goal.list_alone-more-requires-clause-asked
list_alone-more-requires-clause-asked g c =
    let d = c.args.desk.now in let s = at d in let number = c.in-Some-only_handshake.number in
    let alone : only_handshake s.opened ≡ Some number = sym c.only_handshake.ensures ∙ c.in-Some-only_handshake.is in
    let due : c.as_slice.result.now ≡ take (vec_capacity c.args.due.now) (due_in s) = search rules in
    subst (AreAskedAlone s number) (sym due) (due_asked s number (vec_capacity c.args.due.now) (c.due_are_told.ensures d.slots d.methods d.book.history) alone)
