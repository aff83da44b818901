use Rattle.std.proofs.Common.{rules, ◌≡◌, arith, refl}
use Rattle.std.specs.Prelude.{codes}
use Rattle.std.proofs.lemmas.Slice.Eq.{text_from_reads}
use Rattle.replay.proofs.keywords.of_eight.Goals as goal

pub returns-in-tonative : goal.returns-in-tonative
returns-in-tonative c = let e : c.args.text.now ≡ codes "tonative" = text_from_reads c.args.text.now (codes "tonative") (omega arith) (search rules) in rw e refl
