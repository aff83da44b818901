use Rattle.std.proofs.Common.{◌<◌, ◌≤◌, length, rules, subst}
use Rattle.std.proofs.lemmas.List.Edits.{map_over_more}
use Rattle.desk.specs.declared.replies.Span.{Span}
use Rattle.desk.specs.Spans.{earlier}
use Rattle.desk.proofs.Spans.{mapped_so_far}
use Rattle.desk.proofs.replies.shift.Goals as goal

pub overflow_sub-start : goal.overflow_sub-start
overflow_sub-start c =
    let l = c.loop-place in
    let in_it : l.place < length c.args.spans.now.items = search rules in
    subst (λ (s : Span). c.args.less ≤ s.start) (mapped_so_far (earlier c.args.less) c.args.spans.now.items l.spans.items l.place c.index.result.now in_it l.invariant.0 c.index.ensures) (c.requires l.place c.index.result.now in_it)

pub loop-place-preserved : goal.loop-place-preserved
loop-place-preserved c =
    let l = c.loop-place in
    let in_it : l.place < length c.args.spans.now.items = search rules in
    (map_over_more (earlier c.args.less) c.args.spans.now.items l.spans.items l.place c.index.result.now in_it l.invariant.0 c.index.ensures, search rules)
