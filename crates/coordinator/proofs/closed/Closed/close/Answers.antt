use Rattle.std.proofs.Common.{◌≡◌, ◌∙◌, Some, sym, rules}
use Rattle.desk.specs.Fields.{at}
use Rattle.desk.specs.Targets.{kind_of_oldest}
use Rattle.coordinator.proofs.Oldest.{same_number, kind_is}
use Rattle.coordinator.proofs.closed.Closed.close.Goals as goal

pub returns-in-Ok-clause-oldest : goal.returns-in-Ok-clause-oldest
returns-in-Ok-clause-oldest g c =
    let s = at c.args.desk.now in
    let e = c.in-Ok.ensures in
    let front : kind_of_oldest s.opened ≡ Some c.args.kind = search rules in
    (e.oldest.2 ∙ (same_number s.opened e.oldest.0 e.chosen.0 e.oldest.1 e.chosen.1 ∙ sym e.chosen.2), e.chosen.3 ∙ kind_is s.opened e.chosen.0 c.args.kind e.chosen.1 front)
