use Rattle.std.proofs.Common.{sym, subst}
use Rattle.frames.specs.ImageView.{IsSettled}
use Rattle.bodies.proofs.Keeping.{index_is}
use Rattle.bodies.proofs.body.Body.run.Goals as goal

pub run_on-requires : goal.run_on-requires
run_on-requires g c = subst IsSettled (sym (index_is c.self.inside.parts.value c.deref.result.now c.args.self.now c.index.result.now c.self.invariant.1.0 c.self.view_is c.deref.ensures c.index.ensures)) c.requires
