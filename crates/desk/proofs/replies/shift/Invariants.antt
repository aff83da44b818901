use Rattle.std.proofs.Common.{◌≡◌, ◌++◌, map, take, drop}
use Rattle.std.specs.Prelude.{vec_len}
use Rattle.desk.specs.Spans.{earlier}
use Rattle.desk.proofs.replies.shift.Given as goal

abbrev pub invariant-loop-place : goal.invariant-loop-place
invariant-loop-place l = (l.spans.items ≡ map (earlier l.less) (take l.place l.fn.spans.items) ++ drop l.place l.fn.spans.items) × (vec_len l.spans ≡ vec_len l.fn.spans)
