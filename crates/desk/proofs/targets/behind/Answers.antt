use Rattle.std.proofs.Common.{ap, ◌∙◌, ◌+◌}
use Rattle.desk.specs.Targets.{live_after}
use Rattle.std.proofs.lemmas.List.{take_rest}
use Rattle.desk.proofs.LiveNames.{above_behind}
use Rattle.desk.proofs.targets.behind.Goals as goal

pub returns-in-Some : goal.returns-in-Some
returns-in-Some c =
    let found = c.in-Some.ensures in
    let rest = take_rest c.args.live.now (c.in-Some.index + 1) in
    ap (live_after c.args.name) rest ∙ above_behind 0 _ _ _ found.0 c.requires.rising found.1 found.2
