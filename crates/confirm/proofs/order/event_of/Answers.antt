use Rattle.std.proofs.Common.{◌≡◌, ◌∙◌, Some, ap, sym}
use Rattle.replay.specs.declared.grammar.Command.TheVariants.{Do}
use Rattle.replay.specs.Grammar.{command_of}
use Rattle.confirm.proofs.order.event_of.Goals as goal

pub returns-in-Some-Do-clause-read : goal.returns-in-Some-Do-clause-read
returns-in-Some-Do-clause-read c =
    let is : command_of c.args.bytes.now ≡ Some (Do c.in-Some-Do.event) = sym c.in_ok-event.ensures.command ∙ c.in-Some-Do.is ∙ ap Some c.in-Some-Do.field-0-is in
    ap command_of (sym (c.lines_spell_commands.ensures.spelled c.args.bytes.now (Do c.in-Some-Do.event) is).spelled) ∙ is
