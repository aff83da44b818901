use Rattle.std.proofs.Common.{◌≡◌, ◌∙◌, ap, subst, Some, ℕ}
use Rattle.desk.specs.declared.entries.Entry.TheVariants as entry
use Rattle.stopped_threads.specs.Refused.{MayClose}
use Rattle.coordinator.proofs.OpenNumber.{open_number}
use Rattle.coordinator.proofs.coordinator.Coordinator.close_of.Goals as goal

pub returns-clause-closed : goal.returns-clause-closed
returns-clause-closed g c =
    let e = c.in_ok-closed.ensures.closed in
    let n : c.in_ok-closed.closed ≡ c.args.number = e.1.1.2 ∙ open_number c.args.number e.1.0.opened e.1.1.0 e.1.1.1 in
    (e.0 ∙ ap entry.Close n, subst (λ (k : ℕ). MayClose c.args.self.now (Some c.args.number) k) n e.1)
