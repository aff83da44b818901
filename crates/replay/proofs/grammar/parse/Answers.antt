use Rattle.std.proofs.Common.{arith}
use Rattle.replay.proofs.Keys.{command_begun}
use Rattle.replay.proofs.grammar.parse.Goals as goal

pub returns-in_default-word : goal.returns-in_default-word
returns-in_default-word c = record {
  command = command_begun c.args.line.now c.split_at.result.1.now c.in-Some.word c.in-Some.end c.plain.result (omega arith) c.split_at.ensures.back c.in-Some.ensures.begun c.plain.ensures;
  no_memory = tt;
}
