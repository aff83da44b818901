use Rattle.std.proofs.Common.{◌∙◌, sym}
use Rattle.run_picture.specs.Runs.{seen}
use Rattle.run_picture.proofs.BytesTold.{finished_line}
use Rattle.run_picture.proofs.reading.Reading.finish.Goals as goal

pub returns : goal.returns
returns c = finished_line c.args.self.system c.end_line.new.self.system c.args.self.held (seen c.args.self.run) (seen c.end_line.new.self.run) (sym c.is_empty.ensures ∙ c.if-is_empty.false) c.in_ok-end_line.ensures.noted
