use Rattle.run_picture.proofs.MarksAdded.{next_mark}
use Rattle.run_picture.proofs.drawing.put_marks.Goals as goal

pub loop-mark-preserved : goal.loop-mark-preserved
loop-mark-preserved c = next_mark c.args.marks.now c.loop-mark.mark-index c.mark-item.result c.args.canvas.now.text.items c.loop-mark.canvas.text.items c.put_mark.new.canvas.text.items c.loop-mark-test.true c.mark-item.is c.loop-mark.invariant c.in_ok-put_mark.ensures
