use Rattle.std.proofs.Common.{◌∙◌, sym}
use Rattle.system.proofs.CodeEvents.{counted}
use Rattle.system.proofs.keeping.Core.count.Goals as goal

pub returns-in-Some : goal.returns-in-Some
returns-in-Some c = counted c.args.self.now c.args.serial c.count.result c.in-Some.code (sym c.find.ensures.value ∙ c.in-Some.is) c.count.ensures
