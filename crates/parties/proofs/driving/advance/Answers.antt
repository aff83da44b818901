use Rattle.std.proofs.Common.{refl, sym, subst}
use Rattle.parties.specs.Driven.{Leads, work}
use Rattle.parties.proofs.Driven.{advanced}
use Rattle.parties.proofs.driving.advance.Goals as goal

pub returns-then-ne : goal.returns-then-ne
returns-then-ne g c = advanced g.row.N.Denot _ _ _ _ _ c.finish.result refl c.in_default.ensures.leads c.finish.ensures

pub returns : goal.returns
returns g c =
    let did = c.in_default-operate.ensures in
    let first = work c.args.keeps.now c.args.drive.now.called in
    advanced g.row.N.Denot first _ _ _ _ c.finish-2.result did.1 (subst (Leads g.row.N.Denot first) (sym did.0) c.in_default.ensures.leads) c.finish-2.ensures
