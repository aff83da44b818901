use Rattle.std.proofs.Common.{◌∙◌, sym, arith}
use Rattle.replay.proofs.Digits.{number_last}
use Rattle.replay.proofs.words.short_last.Goals as goal

pub returns-in-Some : goal.returns-in-Some
returns-in-Some c = number_last 2 c.in-Some.n c.args.tail.now (omega arith) (sym c.two_digits.ensures ∙ c.in-Some.is)

pub returns-in-Some-three_digits : goal.returns-in-Some-three_digits
returns-in-Some-three_digits c = number_last 3 c.in-Some-three_digits.n c.args.tail.now (omega arith) (sym c.three_digits.ensures ∙ c.in-Some-three_digits.is)
