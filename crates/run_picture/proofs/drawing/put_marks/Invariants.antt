use Rattle.std.proofs.Common.{take}
use Rattle.run_picture.specs.Runs.{shown_by}
use Rattle.run_picture.specs.Drawn.{AddsMarks}
use Rattle.run_picture.proofs.drawing.put_marks.Given as goal

abbrev pub invariant-loop-mark : goal.invariant-loop-mark
invariant-loop-mark l = AddsMarks (shown_by (take l.mark-index l.marks)) l.fn.canvas.text.items l.canvas.text.items
