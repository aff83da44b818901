use Rattle.std.proofs.Common.{◌+◌, ◌≤◌, take}
use Rattle.run_picture.specs.Runs.{seen}
use Rattle.run_picture.specs.Reading.{Read}
use Rattle.run_picture.proofs.reading.Reading.take_all.Given as goal

abbrev pub invariant-loop-byte : goal.invariant-loop-byte
invariant-loop-byte l = record {
  read : Read l.fn.self.system l.fn.self.held (seen l.fn.self.run) (take l.byte-index l.bytes) l.self.system l.self.held (seen l.self.run);
  few : l.self.run.lines ≤ l.fn.self.run.lines + l.byte-index;
}
