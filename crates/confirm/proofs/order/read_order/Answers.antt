use Rattle.confirm.proofs.Steps.{reads_more}
use Rattle.confirm.proofs.order.read_order.Goals as goal

pub loop-rest-preserved : goal.loop-rest-preserved
loop-rest-preserved c =
    let order = c.loop-rest.order in
    let deed = c.in-Some-2.deed in
    let pushed = c.in_ok-push-in-Some-2.ensures in
    rw (pushed.owners, pushed.events, pushed.lines) (reads_more c.args.text.now c.args.head.items order.owners.items order.events.items order.lines.items
    c.loop-rest.rest.now c.in-Some.line.now c.in-Some.behind.now deed.spelled.now deed.owner deed.event c.loop-rest.invariant c.in-Some.ensures.whole
    (rw c.in-Some-2.is at c.in_ok-read_line.ensures.spelled) (rw c.in-Some-2.is at c.in_ok-read_line.ensures.event) (rw c.in-Some-2.is at c.in_ok-read_line.ensures.read))
