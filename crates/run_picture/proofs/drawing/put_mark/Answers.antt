use Rattle.std.proofs.Common.{◌∙◌, ◌++◌, ap}
use Rattle.run_picture.specs.Runs.{shown_of}
use Rattle.run_picture.proofs.MarksAdded.{one_mark}
use Rattle.run_picture.proofs.drawing.put_mark.Goals as goal

pub returns : goal.returns
returns c = one_mark (shown_of c.args.mark.now) c.x-x.result c.height_of-y.result c.as_bytes.result.now c.as_bytes-2.result.now c.args.canvas.now.text.items c.extend_from_slice.new.self.items c.extend_from_slice-2.new.self.items c.extend_from_slice-3.new.self.items
    (c.as_bytes.ensures.value ∙ c.in_ok-head.ensures)
    (c.as_bytes-2.ensures.value ∙ c.in_ok-tail.ensures)
    c.in_ok-extend_from_slice.ensures.items
    (c.in_ok-extend_from_slice-2.ensures.items ∙ ap (λ z. c.extend_from_slice.new.self.items ++ z) c.deref.ensures.value)
    c.in_ok-extend_from_slice-3.ensures.items
