use Rattle.std.proofs.Common.{ℕ, Option, None, Some, sym, subst, rules}
use Rattle.std.specs.Prelude.{IfSome}
use Rattle.desk.specs.Fields.{DeskSeen}
use Rattle.desk.specs.Machine.{Stands}
use Rattle.stopped_threads.specs.declared.faults.Reclaimed.{Reclaimed}
use Rattle.stopped_threads.specs.Reclaiming.{IsReclaimedFrom}
use Rattle.coordinator.specs.Rounds.{Shaking, IsOver, IsReclaimedBehind}
use Rattle.coordinator.proofs.rounds.HandshakeClosed.weigh.Goals as goal

-- the weighing at a desk at which the handshake was closed
behind : {N : Type 0} (asked : Option (ℕ × Stands)) (desk : DeskSeen) (places serial : ℕ) (r : Option (Reclaimed N)) → IsOver asked desk
    → IfSome r (IsReclaimedFrom desk places serial) → IfSome r (IsReclaimedBehind asked places serial)
behind asked desk places serial None over from = tt
behind asked desk places serial (Some said) over from = (from.0, subst (IsOver asked) (sym from.1) over)

pub returns : goal.returns
returns g c =
    let places = g.N.Name.board.places in
    subst (λ (s : Shaking). IfSome c.weigh.result (IsReclaimedBehind s.begun.asked places c.args.serial)) c.self.view_is
    (behind _ c.args.desk.now places c.args.serial c.weigh.result (c.is_over.ensures (search rules)) c.weigh.ensures.from)
