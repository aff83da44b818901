use Rattle.std.proofs.Common.{◌∙◌, ◌++◌, sym, ap, List, ℕ}
use Rattle.std.specs.Prelude.{option_map}
use Rattle.replay.specs.Words.{words_after}
use Rattle.replay.proofs.Cuts.{none_left}
use Rattle.replay.proofs.Numbers.{no_numbers}
use Rattle.replay.proofs.grammar.numbers.Goals as goal

pub returns-in-None-clause-read : goal.returns-in-None-clause-read
returns-in-None-clause-read c =
    let some = none_left c.loop-rest.rest.now ∙ sym c.is_empty.ensures ∙ c.loop-rest-test.true in
    sym (ap (option_map (λ (names : List ℕ). c.loop-rest.names.items ++ names)) (no_numbers (words_after c.loop-rest.rest.now) some (sym c.in-None.ensures.taken))) ∙ c.loop-rest.invariant
