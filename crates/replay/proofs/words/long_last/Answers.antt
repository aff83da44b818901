use Rattle.std.proofs.Common.{◌∙◌, sym, arith}
use Rattle.replay.proofs.Digits.{number_last}
use Rattle.replay.proofs.words.long_last.Goals as goal

pub returns-in-Some : goal.returns-in-Some
returns-in-Some c = number_last 4 c.in-Some.n c.args.tail.now (omega arith) (sym c.four_digits.ensures ∙ c.in-Some.is)
