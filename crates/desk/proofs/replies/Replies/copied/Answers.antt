use Rattle.std.proofs.Common.{length, ap, arith}
use Rattle.desk.specs.Spans.{RepliesSeen}
use Rattle.desk.proofs.Spans.{place_in, read_in}
use Rattle.desk.proofs.replies.Replies.copied.Goals as goal

pub overflow_add-start : goal.overflow_add-start
overflow_add-start c =
    let i = c.self.inside in
    let low = place_in i.all.items i.spans.items c.args.self.now.lists c.args.place (ap (λ (d : RepliesSeen). d.lists) c.self.view_is) c.requires in
    let at = read_in i.spans.items 0 (length i.all.items) c.args.place c.index.result.now c.self.invariant.0 low c.index.ensures in
    omega (arith, at.1, i.all.ok.0, i.all.small)

pub offset_bounds-deref-start : goal.offset_bounds-deref-start
offset_bounds-deref-start c =
    let i = c.self.inside in
    let low = place_in i.all.items i.spans.items c.args.self.now.lists c.args.place (ap (λ (d : RepliesSeen). d.lists) c.self.view_is) c.requires in
    let at = read_in i.spans.items 0 (length i.all.items) c.args.place c.index.result.now c.self.invariant.0 low c.index.ensures in
    omega (arith, at.1, i.all.ok.0, i.all.small)

pub slice_bounds-from_slice-end : goal.slice_bounds-from_slice-end
slice_bounds-from_slice-end c =
    let i = c.self.inside in
    let low = place_in i.all.items i.spans.items c.args.self.now.lists c.args.place (ap (λ (d : RepliesSeen). d.lists) c.self.view_is) c.requires in
    let at = read_in i.spans.items 0 (length i.all.items) c.args.place c.index.result.now c.self.invariant.0 low c.index.ensures in
    omega (arith, at.1, i.all.ok.0, c.deref.ensures.len)
