use Rattle.std.proofs.Common.{rules, ◌≡◌, arith, refl}
use Rattle.std.specs.Prelude.{codes}
use Rattle.std.proofs.lemmas.Slice.Eq.{text_from_reads}
use Rattle.replay.proofs.keywords.of_ten.Goals as goal

pub returns-in-invalidate : goal.returns-in-invalidate
returns-in-invalidate c = let e : c.args.text.now ≡ codes "invalidate" = text_from_reads c.args.text.now (codes "invalidate") (omega arith) (search rules) in rw e refl
