use Rattle.std.proofs.Common.{rules, ◌≡◌, arith, refl}
use Rattle.std.specs.Prelude.{codes}
use Rattle.std.proofs.lemmas.Slice.Eq.{text_from_reads}
use Rattle.replay.proofs.keywords.of_six.Goals as goal

pub returns-in-change : goal.returns-in-change
returns-in-change c = let e : c.args.text.now ≡ codes "change" = text_from_reads c.args.text.now (codes "change") (omega arith) (search rules) in rw e refl

pub returns-in-finish : goal.returns-in-finish
returns-in-finish c = let e : c.args.text.now ≡ codes "finish" = text_from_reads c.args.text.now (codes "finish") (omega arith) (search rules) in rw e refl

pub returns-in-fromvm : goal.returns-in-fromvm
returns-in-fromvm c = let e : c.args.text.now ≡ codes "fromvm" = text_from_reads c.args.text.now (codes "fromvm") (omega arith) (search rules) in rw e refl
