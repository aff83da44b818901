use Rattle.std.proofs.Common.{rules, ◌≡◌, arith, refl}
use Rattle.std.specs.Prelude.{codes}
use Rattle.std.proofs.lemmas.Slice.Eq.{text_from_reads}
use Rattle.replay.proofs.keywords.of_seven.Goals as goal

pub returns-in-release : goal.returns-in-release
returns-in-release c = let e : c.args.text.now ≡ codes "release" = text_from_reads c.args.text.now (codes "release") (omega arith) (search rules) in rw e refl

pub returns-in-operate : goal.returns-in-operate
returns-in-operate c = let e : c.args.text.now ≡ codes "operate" = text_from_reads c.args.text.now (codes "operate") (omega arith) (search rules) in rw e refl

pub returns-in-install : goal.returns-in-install
returns-in-install c = let e : c.args.text.now ≡ codes "install" = text_from_reads c.args.text.now (codes "install") (omega arith) (search rules) in rw e refl

pub returns-in-resolve : goal.returns-in-resolve
returns-in-resolve c = let e : c.args.text.now ≡ codes "resolve" = text_from_reads c.args.text.now (codes "resolve") (omega arith) (search rules) in rw e refl
