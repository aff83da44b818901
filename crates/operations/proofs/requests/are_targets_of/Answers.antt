use Rattle.std.proofs.Common.{◌≡◌, ◌∙◌, rules, sym, true}
use Rattle.operations.specs.Names.{is_distinct}
use Rattle.operations.proofs.Names.{rising_distinct}
use Rattle.operations.proofs.requests.are_targets_of.Goals as goal

pub returns-then-is_rising : goal.returns-then-is_rising
returns-then-is_rising c =
    let rises = sym c.is_rising.ensures ∙ c.if-is_rising.true in
    let distinct : is_distinct c.args.names.now ≡ true = rising_distinct c.args.names.now rises in
    search rules
