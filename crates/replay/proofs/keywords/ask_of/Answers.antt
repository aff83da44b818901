use Rattle.std.proofs.Common.{rules, ◌≡◌, arith, refl}
use Rattle.std.specs.Prelude.{codes}
use Rattle.std.proofs.lemmas.Slice.Eq.{text_from_reads}
use Rattle.replay.proofs.keywords.ask_of.Goals as goal

pub returns-in-census : goal.returns-in-census
returns-in-census c = let e : c.args.text.now ≡ codes "census" = text_from_reads c.args.text.now (codes "census") (omega arith) (search rules) in rw e refl
