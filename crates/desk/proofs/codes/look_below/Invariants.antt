use Rattle.std.proofs.Common.{◌≡◌}
use Rattle.frames.specs.BoardViews.{IsIn}
use Rattle.frames.specs.declared.board_rule.EntryState.TheVariants.{NotEntrant}
use Rattle.desk.specs.CodeBoard.{LooksBelow}
use Rattle.desk.proofs.codes.look_below.Given as goal

abbrev pub invariant-loop-place : goal.invariant-loop-place
invariant-loop-place l = (l.keeper.board ≡ l.fn.keeper.board) × IsIn l.keeper.seen l.fn.id NotEntrant × LooksBelow l.fn.id l.place l.fn.keeper.seen l.keeper.seen
