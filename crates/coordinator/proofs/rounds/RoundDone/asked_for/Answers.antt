use Rattle.std.proofs.Common.{◌∙◌, sym, ap, eqb-true}
use Rattle.coordinator.proofs.rounds.RoundDone.asked_for.Goals as goal

pub returns-in-Some : goal.returns-in-Some
returns-in-Some g c = λ same. (
  (c.in-Some.asked, c.in-Some.field-0-1),
  sym (ap (λ b. b.asked) c.self.view_is) ∙ c.in-Some.is,
  eqb-true c.in-Some.asked c.args.number same,
)
