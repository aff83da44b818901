use Rattle.std.proofs.Common.{get_or, sym, ap, ◌∙◌}
use Rattle.std.specs.Mem.Slots.{slots_items}
use Rattle.frames.specs.BoardWords.{count_of}
use Rattle.board.specs.Closing.{word_left}
use Rattle.board.proofs.Closings.{found_at}
use Rattle.board.proofs.closed.ClosedBoard.count.Goals as goal

pub returns : goal.returns
returns c = (sym (found_at (slots_items c.self.inside.closed.words) c.count_at.result c.word.result c.word.ensures) ∙ (ap (λ i. get_or (slots_items c.self.inside.closed.words) i 0) c.count_at.ensures ∙ ap (λ b. word_left b (count_of c.args.slot)) c.self.view_is))
