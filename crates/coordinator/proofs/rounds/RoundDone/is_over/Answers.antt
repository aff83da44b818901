use Rattle.std.proofs.Common.{◌<◌, ℕ, Option, sym, ap, subst, ◌∙◌}
use Rattle.std.proofs.lemmas.Bool.{ltb-true}
use Rattle.desk.specs.Machine.{Stands}
use Rattle.coordinator.specs.Rounds.{IsOver}
use Rattle.coordinator.proofs.rounds.RoundDone.is_over.Goals as goal

pub returns-in-Some : goal.returns-in-Some
returns-in-Some g c = λ over.
    subst (λ (a : Option (ℕ × Stands)). IsOver a c.args.desk.now) (sym c.in-Some.is ∙ ap (λ b. b.asked) c.self.view_is)
    (subst (λ n. c.in-Some.asked < n) c.least_pending.ensures (ltb-true c.in-Some.asked c.least_pending.result over))

pub returns-in-None : goal.returns-in-None
returns-in-None g c = λ _. subst (λ (a : Option (ℕ × Stands)). IsOver a c.args.desk.now) (sym c.in-None.is ∙ ap (λ b. b.asked) c.self.view_is) tt
