use Rattle.std.proofs.Common.{ap, ◌∙◌, eqb, subst, arith, ◌<◌}
use Rattle.std.specs.Int.{bit_at}
use Rattle.board.proofs.Notes.{ones_are, zero_stands}
use Rattle.board.proofs.note.Note.least_unlooked.Goals as goal

pub returns-clause-below : goal.returns-clause-below
returns-clause-below c = let is = c.trailing_ones.ensures in let word = c.args.self.now.looked in λ p h. ap (λ b. eqb b 1) (ones_are word p (omega arith) (subst (λ n. p < n) is h))

pub returns-clause-there : goal.returns-clause-there
returns-clause-there c = let is = c.trailing_ones.ensures in let word = c.args.self.now.looked in λ h. ap (λ b. eqb b 1) (ap (bit_at word) is ∙ zero_stands word (omega arith) (subst (λ n. n < 64) is h))
