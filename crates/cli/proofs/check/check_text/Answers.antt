use Rattle.std.proofs.Common.{rules}
use Rattle.cli.proofs.Texts.{is_short, fault_of_script}
use Rattle.cli.proofs.check.check_text.Goals as goal

pub returns-in_err-check-clause-fault : goal.returns-in_err-check-clause-fault
returns-in_err-check-clause-fault c =
    let short = is_short _ _ _ c.in_ok-script.ensures.too_long in
    let why = fault_of_script c.args.text.now c.in_ok-script.script c.in_err-check.field-0.0 short (c.in_ok-script.ensures.reads short) c.in_err-check.ensures.first in
    search (rules, why)

pub returns-clause-code : goal.returns-clause-code
returns-clause-code c =
    let short = is_short _ _ _ c.in_ok-script.ensures.too_long in
    record {
      short = short;
      script = c.in_ok-script.script;
      read = c.in_ok-script.ensures.reads short;
      clean = c.in_ok-check.ensures.clean;
      checked = c.in_ok-check.ensures.checked;
      laid = c.in_ok-check.ensures.code;
    }
