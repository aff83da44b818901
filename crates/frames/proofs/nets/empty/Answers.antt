use Rattle.std.proofs.Common.{rules}
use Rattle.frames.specs.Nets.{is_zero}
use Rattle.frames.proofs.Cells.{tested, tested_not, emptied_zero, emptied_net, Emptied}
use Rattle.frames.proofs.nets.empty.Goals.{then-has_net, else-has_net}
use Rattle.frames.proofs.nets.empty.Goals as goal

pub returns : goal.returns
returns c =
    let left : Emptied c.args.cells.now.items c.args.list.now.items c.args.place c.if-has_net.list.items = elim c.if-has_net.branch [
      | then-has_net w ↦ (
          let some = tested c.has_net.result (is_zero c.index.result.now.by) c.has_net.ensures w.if-has_net.true in
          rw (w.list-is, w.push_reserved.ensures.items) (emptied_net c.args.cells.now.items c.args.list.now.items c.args.place c.index.result.now c.requires.cells c.requires.place c.index.ensures some))
      | else-has_net w ↦ (
          let none = tested_not c.has_net.result (is_zero c.index.result.now.by) c.has_net.ensures w.if-has_net.false in
          rw w.list-is (emptied_zero c.args.cells.now.items c.args.list.now.items c.args.place c.index.result.now c.requires.cells c.requires.place c.index.ensures none))
    ] in
    rw c.nothing_at.ensures (record { cells = left.are; totals = left.totals; among = left.among; fits = search rules; capacity = search rules })
