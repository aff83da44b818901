use Rattle.std.proofs.Common.{◌≡◌, ◌∙◌, sym, true, None, Some, rules}
use Rattle.std.specs.Prelude.{nat_lt}
use Rattle.system.proofs.LogEvents.{resolved_as}
use Rattle.system.proofs.keeping.Core.resolve.Goals as goal

pub returns-in-Some : goal.returns-in-Some
returns-in-Some c =
    let low : nat_lt c.args.method c.args.self.now.table.methods ≡ true = search rules in
    resolved_as c.args.self.now c.args.method (Some c.in-Some.code) low (sym c.in-Some.is ∙ c.current.ensures.value)

pub returns-in-None : goal.returns-in-None
returns-in-None c =
    let low : nat_lt c.args.method c.args.self.now.table.methods ≡ true = search rules in
    resolved_as c.args.self.now c.args.method None low (sym c.in-None.is ∙ c.current.ensures.value)
