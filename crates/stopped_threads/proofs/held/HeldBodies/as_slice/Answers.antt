use Rattle.std.proofs.Common.{◌≡◌, length, ap, arith}
use Rattle.stopped_threads.proofs.Apart.{few_held}
use Rattle.stopped_threads.proofs.held.HeldBodies.as_slice.Goals as goal

pub returns-clause-few : goal.returns-clause-few
returns-clause-few g c =
    let i = c.self.inside in let few = few_held i.places i.bodies.items c.self.invariant.3 in let most = c.self.invariant.1 in
    let same : length c.as_slice.result.now ≡ length i.bodies.items = ap length c.as_slice.ensures.value in
    omega arith
