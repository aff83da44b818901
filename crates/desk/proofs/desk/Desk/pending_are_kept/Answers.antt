use Rattle.std.proofs.Common.{◌≡◌, ◌<◌, ℕ, true, ◌∙◌, sym, ap, subst}
use Rattle.desk.specs.Fields.{DeskSeen, at}
use Rattle.desk.specs.Pending.{is_pending}
use Rattle.desk.proofs.Pending.{pending_above}
use Rattle.desk.proofs.desk.Desk.pending_are_kept.Goals as goal

pub returns : goal.returns
returns g c =
    let m = c.self.invariant in
    subst (λ (d : DeskSeen). (n : ℕ) → is_pending n (at d) ≡ true → d.book.gone.operations < n) c.self.view_is
    (λ n h. pending_above n m.kept m.pending (ap (is_pending n) (sym m.kept.state) ∙ h))
