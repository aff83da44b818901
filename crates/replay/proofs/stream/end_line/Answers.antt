use Rattle.std.proofs.Common.{◌++◌}
use Rattle.replay.proofs.Streams.{turned_as, joined}
use Rattle.replay.proofs.Taking.{on_err, takes_as}
use Rattle.replay.proofs.stream.end_line.Goals as goal

pub returns-in_err-turn-clause-no_memory : goal.returns-in_err-turn-clause-no_memory
returns-in_err-turn-clause-no_memory c = λ world at. on_err c.from_residual.result
    (takes_as world c.line.result.now (c.args.held.now ++ c.args.piece.now) (joined c.args.held.now c.args.piece.now c.join.new.self c.line.result.now c.join.ensures c.line.ensures) (c.in_err-turn.ensures.no_memory world at))

pub returns-clause-done : goal.returns-clause-done
returns-clause-done c = turned_as _ _ c.line.result.now (c.args.held.now ++ c.args.piece.now) _ _ (joined c.args.held.now c.args.piece.now c.join.new.self c.line.result.now c.join.ensures c.line.ensures) c.in_ok-turn.ensures.done
