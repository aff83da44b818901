use Rattle.run_picture.specs.Runs.{seen}
use Rattle.run_picture.proofs.BytesTold.{read_line}
use Rattle.run_picture.proofs.reading.Reading.take.Goals as goal

pub returns-then-byte-eq10-clause-read : goal.returns-then-byte-eq10-clause-read
returns-then-byte-eq10-clause-read c = read_line c.args.self.now.system c.end_line.new.self.system c.args.self.now.held c.end_line.new.self.held (seen c.args.self.now.run) (seen c.end_line.new.self.run) c.args.byte c.if-byte-eq10.true c.in_ok-end_line.ensures.noted c.in_ok-end_line.ensures.held
