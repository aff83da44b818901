use Rattle.std.proofs.Common.{◌≡◌, List, ℕ, take, take_all, subst, arith}
use Rattle.run_picture.specs.Runs.{seen}
use Rattle.run_picture.specs.Reading.{Read}
use Rattle.run_picture.proofs.BytesTold.{read_none, read_more}
use Rattle.run_picture.proofs.reading.Reading.take_all.Goals as goal

pub loop-byte-init : goal.loop-byte-init
loop-byte-init c = record {
  read = read_none c.args.self.now.system c.args.self.now.held (seen c.args.self.now.run);
  few = omega arith;
}

pub loop-byte-preserved : goal.loop-byte-preserved
loop-byte-preserved c = record {
  read = read_more c.args.self.now.system c.loop-byte.self.system c.take.new.self.system c.args.self.now.held c.loop-byte.self.held c.take.new.self.held (seen c.args.self.now.run) (seen c.loop-byte.self.run) (seen c.take.new.self.run) c.args.bytes.now c.loop-byte.byte-index c.loop-byte-test.true c.loop-byte.invariant.read c.in_ok-take.ensures.read;
  few = omega (arith, c.in_ok-take.ensures.few, c.loop-byte.invariant.few);
}

pub returns-clause-read : goal.returns-clause-read
returns-clause-read c =
    let whole : take c.loop-byte.byte-index c.args.bytes.now ≡ c.args.bytes.now = grind (arith, take_all, c.loop-byte-test.false) in
    subst (λ (z : List ℕ). Read c.args.self.now.system c.args.self.now.held (seen c.args.self.now.run) z c.loop-byte.self.system c.loop-byte.self.held (seen c.loop-byte.self.run)) whole c.loop-byte.invariant.read
