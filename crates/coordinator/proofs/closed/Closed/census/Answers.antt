use Rattle.std.proofs.Common.{◌≡◌, sym, subst}
use Rattle.std.specs.Prelude.{IfSome}
use Rattle.coordinator.specs.Driving.{ClosedSeen, CountedSeen, IsCounted}
use Rattle.coordinator.proofs.closed.Closed.census.Goals as goal

pub returns-clause-listed : goal.returns-clause-listed
returns-clause-listed g c = λ old list.
    let numbered = subst (λ (w : CountedSeen). IfSome w.operated (λ o. o.0 ≡ c.args.self.number)) (sym c.counted.view_is) c.requires.numbered in (
      subst (λ (w : CountedSeen). IsCounted old w) (sym c.counted.view_is) list,
      subst (λ (s : ClosedSeen). IfSome c.counted.inside.operated (λ o. o.0 ≡ s.number)) (sym c.self.view_is) numbered,
    )
