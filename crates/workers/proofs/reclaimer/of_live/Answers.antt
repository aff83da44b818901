use Rattle.std.proofs.Common.{rules, ◌==◌}
use Rattle.std.specs.List.{list_any}
use Rattle.std.proofs.lemmas.Fn.{filter_same}
use Rattle.workers.proofs.reclaimer.of_live.Goals as goal

-- the closure answers for each job whether its thread is live, and stays as it is
pub returns : goal.returns
returns g c = filter_same _ (λ j. list_any (λ n. n == g.J.HandshakeOp.whom j) c.args.live.now) _ (λ x b f' k. search rules) _ _ c.retain.ensures.filtered
