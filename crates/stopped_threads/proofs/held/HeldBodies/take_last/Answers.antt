use Rattle.std.proofs.Common.{◌≡◌, ◌++◌, ◌∷◌, [], subst, rules, arith}
use Rattle.stopped_threads.specs.Held.{AreHeld, AreAmong}
use Rattle.stopped_threads.proofs.Apart.{front, last, among_front}
use Rattle.stopped_threads.proofs.held.HeldBodies.take_last.Goals as goal

pub invariant_of-result : goal.invariant_of-result
invariant_of-result g c =
    let i = c.self.inside in
    let whole : i.bodies.items ≡ c.pop.new.self.items ++ c.in_ok-body.body ∷ [] = search rules in
    let k = last _ _ _ (subst (AreHeld i.places) whole c.self.invariant.3) in
    let most = c.self.invariant.1 in let low = k.2 in
    (k.0, k.1, omega (arith, most, low))

pub invariant_of-self-else-is_empty : goal.invariant_of-self-else-is_empty
invariant_of-self-else-is_empty g c =
    let i = c.self.inside in let m = c.self.invariant in
    let whole : i.bodies.items ≡ c.pop.new.self.items ++ c.in_ok-body.body ∷ [] = search rules in
    (m.0, m.1, search rules, front _ _ _ (subst (AreHeld i.places) whole m.3), among_front _ _ _ (subst (AreAmong i.came) whole m.4))
