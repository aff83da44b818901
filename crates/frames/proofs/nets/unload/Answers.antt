use Rattle.std.proofs.Common.{◌<◌, length, rules, arith}
use Rattle.frames.specs.Nets.{is_zero}
use Rattle.frames.proofs.Cells.{tested, tested_not, rested_zero, rested_net, touched_rested}
use Rattle.frames.proofs.nets.unload.Goals as goal

pub returns-then-has_net : goal.returns-then-has_net
returns-then-has_net c =
    let e = c.index.result.now in
    let cells = c.args.cells.now.items in
    let some = tested c.has_net.result (is_zero e.by) c.has_net.ensures c.if-has_net.true in
    let left = rested_net cells c.args.list.now.items c.args.place e.code e c.requires.cells c.requires.place c.index.ensures some in
    let bound : c.args.place < length cells = let long = c.requires.cells.long in let lt = c.requires.place in omega arith in
    rw (c.at_rest.ensures, c.push_reserved.ensures.items) (record {
      cells = left.are;
      totals = left.totals;
      nets = left.nets;
      touched = touched_rested cells c.args.place e bound c.index.ensures;
      fits = search rules;
      capacity = search rules;
    })

pub returns-else-has_net : goal.returns-else-has_net
returns-else-has_net c =
    let e = c.index.result.now in
    let cells = c.args.cells.now.items in
    let none = tested_not c.has_net.result (is_zero e.by) c.has_net.ensures c.if-has_net.false in
    let left = rested_zero cells c.args.list.now.items c.args.place e.code e c.requires.cells c.requires.place c.index.ensures none in
    let bound : c.args.place < length cells = let long = c.requires.cells.long in let lt = c.requires.place in omega arith in
    rw c.at_rest.ensures (record {
      cells = left.are;
      totals = left.totals;
      nets = left.nets;
      touched = touched_rested cells c.args.place e bound c.index.ensures;
      fits = search rules;
      capacity = search rules;
    })
