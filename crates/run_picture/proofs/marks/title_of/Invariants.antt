use Rattle.std.proofs.Common.{◌≡◌, ◌++◌, drop}
use Rattle.std.specs.List.{flat_map}
use Rattle.run_picture.specs.Marks.{escaped_byte}
use Rattle.run_picture.proofs.marks.title_of.Given as goal

abbrev pub invariant-loop-byte : goal.invariant-loop-byte
invariant-loop-byte l = l.title.items ++ flat_map escaped_byte (drop l.byte-index l.line) ≡ flat_map escaped_byte l.line
