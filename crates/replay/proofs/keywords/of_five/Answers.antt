use Rattle.std.proofs.Common.{rules, ◌≡◌, arith, refl}
use Rattle.std.specs.Prelude.{codes}
use Rattle.std.proofs.lemmas.Slice.Eq.{text_from_reads}
use Rattle.replay.proofs.keywords.of_five.Goals as goal

pub returns-in-enter : goal.returns-in-enter
returns-in-enter c = let e : c.args.text.now ≡ codes "enter" = text_from_reads c.args.text.now (codes "enter") (omega arith) (search rules) in rw e refl

pub returns-in-leave : goal.returns-in-leave
returns-in-leave c = let e : c.args.text.now ≡ codes "leave" = text_from_reads c.args.text.now (codes "leave") (omega arith) (search rules) in rw e refl

pub returns-in-begin : goal.returns-in-begin
returns-in-begin c = let e : c.args.text.now ≡ codes "begin" = text_from_reads c.args.text.now (codes "begin") (omega arith) (search rules) in rw e refl

pub returns-in-cross : goal.returns-in-cross
returns-in-cross c = let e : c.args.text.now ≡ codes "cross" = text_from_reads c.args.text.now (codes "cross") (omega arith) (search rules) in rw e refl

pub returns-in-clear : goal.returns-in-clear
returns-in-clear c = let e : c.args.text.now ≡ codes "clear" = text_from_reads c.args.text.now (codes "clear") (omega arith) (search rules) in rw e refl

pub returns-in-close : goal.returns-in-close
returns-in-close c = let e : c.args.text.now ≡ codes "close" = text_from_reads c.args.text.now (codes "close") (omega arith) (search rules) in rw e refl

pub returns-in-block : goal.returns-in-block
returns-in-block c = let e : c.args.text.now ≡ codes "block" = text_from_reads c.args.text.now (codes "block") (omega arith) (search rules) in rw e refl

pub returns-in-count : goal.returns-in-count
returns-in-count c = let e : c.args.text.now ≡ codes "count" = text_from_reads c.args.text.now (codes "count") (omega arith) (search rules) in rw e refl

pub returns-in-stack : goal.returns-in-stack
returns-in-stack c = let e : c.args.text.now ≡ codes "stack" = text_from_reads c.args.text.now (codes "stack") (omega arith) (search rules) in rw e refl

pub returns-in-start : goal.returns-in-start
returns-in-start c = let e : c.args.text.now ≡ codes "start" = text_from_reads c.args.text.now (codes "start") (omega arith) (search rules) in rw e refl

pub returns-in-state : goal.returns-in-state
returns-in-state c = let e : c.args.text.now ≡ codes "state" = text_from_reads c.args.text.now (codes "state") (omega arith) (search rules) in rw e refl

pub returns-in-round : goal.returns-in-round
returns-in-round c = let e : c.args.text.now ≡ codes "round" = text_from_reads c.args.text.now (codes "round") (omega arith) (search rules) in rw e refl

pub returns-in-weigh : goal.returns-in-weigh
returns-in-weigh c = let e : c.args.text.now ≡ codes "weigh" = text_from_reads c.args.text.now (codes "weigh") (omega arith) (search rules) in rw e refl
