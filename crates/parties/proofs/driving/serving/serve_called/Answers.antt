use Rattle.std.proofs.Common.{◌≡◌, Some, None, inl, refl, rules, sym, subst}
use Rattle.stopped_threads.specs.Holding.{Holding}
use Rattle.coordinator_core.specs.declared.drive.Callback.TheVariants as callback
use Rattle.parties.specs.Driven.{Leads, work}
use Rattle.parties.proofs.Driven.{dropped, settled, let_go, same, then}
use Rattle.parties.proofs.driving.serving.serve_called.Goals as goal
use Rattle.parties.proofs.driving.serving.serve_called.Goals.{then-is_none, else-is_none}

pub returns-then-place-places-clause-leads : goal.returns-then-place-places-clause-leads
returns-then-place-places-clause-leads g c =
    let keeps = c.args.keeps.now in
    let is : c.args.drive.now.called ≡ Some (callback.Handshake c.args.number c.args.place) = c.requires.called in
    let ends : c.call_ends.new.self.called ≡ None = search rules in
    dropped g.row.N.Denot keeps keeps c.args.number c.args.place _ _ is ends (inl refl)

pub returns-clause-leads : goal.returns-clause-leads
returns-clause-leads g c =
    let keeps = c.args.keeps.now in let mid = c.serve_called.new.self in
    let is : c.args.drive.now.called ≡ Some (callback.Handshake c.args.number c.args.place) = c.requires.called in
    let ends : c.call_ends-2.new.self.called ≡ None = search rules in
    let after = c.call_ends-2.new.self.called in
    let first = settled g.row.N.Denot keeps mid c.args.number c.args.place c.args.drive.now.called after c.serve_called.result is ends c.serve_called.ensures.served c.serve_called.ensures.left in
    let rest : Leads g.row.N.Denot (work mid after) (work c.if-is_none.keeps after) = elim c.if-is_none.branch [
      | then-is_none w ↦ subst (λ (h : Holding). Leads g.row.N.Denot (work mid after) (work h after)) (sym w.keeps-is) (let_go g.row.N.Denot mid w.let_go.new.keeps c.args.place after w.let_go.ensures)
      | else-is_none w ↦ same g.row.N.Denot mid c.if-is_none.keeps after after w.keeps-is refl
    ] in
    then g.row.N.Denot _ (work mid after) _ first rest
