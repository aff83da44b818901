use Rattle.std.proofs.Common.{rules, Ok, Err, string_bytes}
use Rattle.cli.specs.declared.fault.Fault.TheVariants.{WriteFailed}
use Rattle.cli.proofs.Enough.{told_all, read_fault}
use Rattle.cli.proofs.Texts.{answered}
use Rattle.cli.proofs.check.check_script.Goals as goal

pub returns-in_err-code-clause-read : goal.returns-in_err-code-clause-read
returns-in_err-code-clause-read g c =
    let why = rw c.deref.ensures.value at c.in_err-code.ensures.fault in
    let read = read_fault (Unit {0}) (g.R.Source.left c.args.source.now) (g.R.Source.left c.read_text.new.source) (g.W.Sink.got c.args.sink.now) c.in_ok-text.text.items c.in_err-code.field-0.0 c.in_ok-text.ensures.text why in
    search (rules, read)

pub returns-in_err-code-clause-told : goal.returns-in_err-code-clause-told
returns-in_err-code-clause-told g c =
    let why = rw c.deref.ensures.value at c.in_err-code.ensures.fault in
    let read = read_fault (Unit {0}) (g.R.Source.left c.args.source.now) (g.R.Source.left c.read_text.new.source) (g.W.Sink.got c.args.sink.now) c.in_ok-text.text.items c.in_err-code.field-0.0 c.in_ok-text.ensures.text why in
    let told = told_all (Unit {0}) (Err c.in_err-code.field-0.0) (g.R.Source.left c.args.source.now) (g.R.Source.left c.read_text.new.source) (g.W.Sink.got c.args.sink.now) (g.W.Sink.got c.args.sink.now) read in
    search (rules, told)

pub returns-in-Ok-clause-read : goal.returns-in-Ok-clause-read
returns-in-Ok-clause-read g c =
    let code = rw c.deref.ensures.value at c.in_ok-code.ensures.code in
    record {
      text = c.in_ok-text.text.items;
      enough = c.in_ok-text.ensures.text;
      told = (string_bytes c.in_ok-line_of.field-0, answered _ _ _ code c.in_ok-line_of.ensures, rw c.into_bytes-line.ensures.value at c.in-Ok.ensures.done.0);
    }

pub returns-in-Ok-clause-told : goal.returns-in-Ok-clause-told
returns-in-Ok-clause-told g c =
    told_all (Unit {0}) (Ok tt) (g.R.Source.left c.args.source.now) (g.R.Source.left c.read_text.new.source) (g.W.Sink.got c.args.sink.now) (g.W.Sink.got c.flush.new.sink) (returns-in-Ok-clause-read g c)

pub returns-clause-read : goal.returns-clause-read
returns-clause-read g c =
    let code = rw c.deref.ensures.value at c.in_ok-code.ensures.code in
    record {
      text = c.in_ok-text.text.items;
      enough = c.in_ok-text.ensures.text;
      told = (string_bytes c.in_ok-line_of.field-0, answered _ _ _ code c.in_ok-line_of.ensures, rw c.into_bytes-line.ensures.value at c.in-Err.ensures.part.0);
    }

pub returns-clause-told : goal.returns-clause-told
returns-clause-told g c =
    told_all (Unit {0}) (Err WriteFailed) (g.R.Source.left c.args.source.now) (g.R.Source.left c.read_text.new.source) (g.W.Sink.got c.args.sink.now) (g.W.Sink.got c.flush.new.sink) (returns-clause-read g c)
