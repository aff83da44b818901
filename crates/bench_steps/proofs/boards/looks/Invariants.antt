use Rattle.std.proofs.Common.{◌≡◌}
use Rattle.frames.specs.declared.board_rule.EntryState.TheVariants.{NotEntrant}
use Rattle.frames.specs.BoardViews.{IsIn}
use Rattle.bench_steps.proofs.boards.looks.Given as goal

abbrev pub invariant-loop-turn : goal.invariant-loop-turn
invariant-loop-turn l = record {
  board : l.keeper.board ≡ l.fn.board;
  code : IsIn l.keeper.seen l.fn.code NotEntrant;
}
