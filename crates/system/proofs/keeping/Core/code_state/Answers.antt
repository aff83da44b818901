use Rattle.std.proofs.Common.{◌∙◌, sym}
use Rattle.system.proofs.LogEvents.{state_of}
use Rattle.system.proofs.keeping.Core.code_state.Goals as goal

pub returns-in-Some : goal.returns-in-Some
returns-in-Some c = state_of c.args.self.now c.args.serial c.in-Some.state (sym c.state.ensures ∙ c.in-Some.is)
