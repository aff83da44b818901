use Rattle.std.proofs.Common.{rules, ◌<◌}
use Rattle.thread_list.proofs.Answering.{taken}
use Rattle.thread_list.proofs.running_thread.RunningThread.come_out.Goals as goal

pub returns-in-Some-clause-next : goal.returns-in-Some-clause-next
returns-in-Some-clause-next g c =
    let some : 0 < c.number-number.result = search rules in
    (c.args.back, taken _ _ _ c.args.back some (record { number = g.J.HandshakeOp.number c.in-Some.job; ask = g.J.HandshakeOp.asks c.in-Some.job }, c.publish.new.self, search rules, search rules, search rules, search rules, search rules, search rules))
