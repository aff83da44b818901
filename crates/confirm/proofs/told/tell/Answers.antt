use Rattle.std.proofs.lemmas.Result.{err_from_is_err_and}
use Rattle.confirm.proofs.Telling.{tells_lines, tells_none, tells_bad_order}
use Rattle.confirm.proofs.told.tell.Goals as goal

pub returns-in_err-order-clause-fault : goal.returns-in_err-order-clause-fault
returns-in_err-order-clause-fault c =
    let p = err_from_is_err_and c.from_residual-in_err-order.result c.from_residual-in_err-order.ensures.1 in
    rw (p.1, p.2) (tells_bad_order c.args.text.now c.in-Some.before.now c.in-Some.behind.now c.in_ok-log.log c.in_err-order.field-0.0 c.in-Some.ensures c.in_ok-log.ensures.log c.in_err-order.ensures.fault)

pub returns-then-branch-clause-told : goal.returns-then-branch-clause-told
returns-then-branch-clause-told c =
    let order = c.in_ok-order.order in
    tells_lines c.args.text.now c.in-Some.before.now c.in-Some.behind.now c.in_ok-log.log c.in_ok-size_line.field-0.items order.owners.items order.events.items order.lines.items
    c.as_slice-owners.result.now c.as_slice-events.result.now c.in_ok-check.field-0 c.in-Some.ensures c.in_ok-log.ensures.log c.in_ok-size_line.ensures c.in_ok-order.ensures.order
    c.as_slice-events.ensures.value c.as_slice-owners.ensures.value c.in_ok-check.ensures c.if-branch.true

pub returns-clause-told : goal.returns-clause-told
returns-clause-told c =
    let order = c.in_ok-order.order in
    tells_none c.args.text.now c.in-Some.before.now c.in-Some.behind.now c.in_ok-log.log c.in_ok-size_line.field-0.items order.owners.items order.events.items order.lines.items
    c.as_slice-owners.result.now c.as_slice-events.result.now c.in_ok-check.field-0 c.in-Some.ensures c.in_ok-log.ensures.log c.in_ok-order.ensures.order
    c.as_slice-events.ensures.value c.as_slice-owners.ensures.value c.in_ok-check.ensures c.if-branch.false
