use Rattle.cli.proofs.Enough.{fault_of_read}
use Rattle.cli.proofs.check.read_code.Goals as goal

pub returns-clause-fault : goal.returns-clause-fault
returns-clause-fault g c =
    let why = rw c.deref.ensures.value at c.check_text.ensures.fault in
    fault_of_read c.check_text.result (g.R.Source.left c.args.source.now) (g.R.Source.left c.read_text.new.source) (g.R.Source.failures c.read_text.new.source)
    c.in_ok-text.text.items c.in_ok-text.ensures.failed c.in_ok-text.ensures.text why
