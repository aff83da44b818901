use Rattle.std.proofs.Common.{List, subst}
use Rattle.run_picture.specs.declared.marks.Mark.{Mark}
use Rattle.run_picture.specs.Runs.{shown_by}
use Rattle.run_picture.specs.Drawn.{AddsMarks}
use Rattle.run_picture.proofs.MarksAdded.{whole_picture}
use Rattle.run_picture.proofs.drawing.draw.Goals as goal

pub returns : goal.returns
returns c = whole_picture (shown_by c.args.run.now.marks.items) c.put_behind.new.canvas.text.items c.put_marks.new.canvas.text.items c.put.new.self.text.items
    (subst (λ (z : List Mark). AddsMarks (shown_by z) c.put_behind.new.canvas.text.items c.put_marks.new.canvas.text.items) c.deref-2.ensures.value c.in_ok-put_marks.ensures)
    c.in_ok-put.ensures
