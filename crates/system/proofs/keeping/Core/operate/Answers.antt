use Rattle.std.proofs.Common.{refl, sym}
use Rattle.system.proofs.Censusing.{operate_refused, operate_done, may_operate}
use Rattle.system.proofs.Runs.{on_err}
use Rattle.system.proofs.keeping.Core.operate.Goals as goal

pub returns-in-Some-clause-does : goal.returns-in-Some-clause-does
returns-in-Some-clause-does c = operate_refused c.args.self.now c.in-Some.refusal (sym c.in-Some.ensures)

pub returns-clause-does : goal.returns-clause-does
returns-clause-does c = rw c.set_operated.ensures (operate_done c.args.self.now _ _ (record { table = refl; places = refl; records = refl; index = refl; names = refl; moment_is = refl }) refl c.in_ok-counts.ensures (sym c.in_default.ensures))

pub returns-in_err-counts-clause-no_memory : goal.returns-in_err-counts-clause-no_memory
returns-in_err-counts-clause-no_memory c = on_err c.from_residual.result (may_operate c.args.self.now (sym c.in_default.ensures))
