use Rattle.std.proofs.Common.{◌∙◌, sym, ap, is_some}
use Rattle.replay.specs.Words.{words_after}
use Rattle.replay.proofs.Cuts.{none_left}
use Rattle.replay.proofs.Numbers.{no_numbers}
use Rattle.replay.proofs.grammar.are_numbers.Goals as goal

pub returns-in-None : goal.returns-in-None
returns-in-None c =
    let some = none_left c.loop-rest.rest.now ∙ sym c.is_empty.ensures ∙ c.loop-rest-test.true in
    sym (ap is_some (no_numbers (words_after c.loop-rest.rest.now) some (sym c.in-None.ensures.taken))) ∙ c.loop-rest.invariant
