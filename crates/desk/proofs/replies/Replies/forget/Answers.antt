use Rattle.std.proofs.Common.{◌∙◌, length, map, drop, ap, arith, rules}
use Rattle.desk.specs.Spans.{RepliesSeen}
use Rattle.desk.proofs.Spans.{dropped_below, read_in, dropped_behind, dropped_lists, dropped_starts, few_dropped}
use Rattle.desk.proofs.replies.Replies.forget.Goals as goal

pub drop_first-requires-2 : goal.drop_first-requires-2
drop_first-requires-2 c =
    let i = c.self.inside in
    let low = dropped_below i.all.items i.spans.items c.args.self.now.lists c.args.count c.len.result (ap (λ (d : RepliesSeen). d.lists) c.self.view_is) c.requires (search rules) c.if-count-len.false in
    let at = read_in i.spans.items 0 (length i.all.items) c.args.count c.index.result.now c.self.invariant.0 low c.index.ensures in
    omega (arith, at.1, i.all.ok.0)

pub shift-requires : goal.shift-requires
shift-requires c =
    let i = c.self.inside in
    let low = dropped_below i.all.items i.spans.items c.args.self.now.lists c.args.count c.len.result (ap (λ (d : RepliesSeen). d.lists) c.self.view_is) c.requires (search rules) c.if-count-len.false in
    dropped_starts i.spans.items c.drop_first.new.list.items (length i.all.items) c.args.count c.index.result.now c.self.invariant.0 low c.index.ensures c.drop_first.ensures.items

pub invariant_of-self-2 : goal.invariant_of-self-2
invariant_of-self-2 c =
    let i = c.self.inside in
    let low = dropped_below i.all.items i.spans.items c.args.self.now.lists c.args.count c.len.result (ap (λ (d : RepliesSeen). d.lists) c.self.view_is) c.requires (search rules) c.if-count-len.false in
    let shifted = c.shift.ensures ∙ ap (map _) c.drop_first.ensures.items in (
      dropped_behind i.spans.items c.shift.new.spans.items i.all.items c.drop_first-2.new.list.items c.args.count c.index.result.now c.self.invariant.0 low c.index.ensures shifted c.drop_first-2.ensures.items,
      few_dropped i.spans.items c.shift.new.spans.items c.args.count c.index.result.now.start c.self.invariant.1 shifted,
    )

pub returns : goal.returns
returns c =
    let i = c.self.inside in
    let low = dropped_below i.all.items i.spans.items c.args.self.now.lists c.args.count c.len.result (ap (λ (d : RepliesSeen). d.lists) c.self.view_is) c.requires (search rules) c.if-count-len.false in
    dropped_lists i.spans.items c.shift.new.spans.items i.all.items c.drop_first-2.new.list.items c.args.count c.index.result.now c.self.invariant.0 low c.index.ensures
    (c.shift.ensures ∙ ap (map _) c.drop_first.ensures.items) c.drop_first-2.ensures.items
    ∙ ap (λ (d : RepliesSeen). drop c.args.count d.lists) c.self.view_is
