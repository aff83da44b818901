use Rattle.std.proofs.Common.{get_or, sym, ap, ◌∙◌}
use Rattle.std.specs.Mem.Slots.{slots_items}
use Rattle.frames.specs.BoardWords.{place_of}
use Rattle.board.specs.Closing.{word_left}
use Rattle.board.proofs.Closings.{found_at}
use Rattle.board.proofs.closed.ClosedBoard.place.Goals as goal

pub returns : goal.returns
returns c = (sym (found_at (slots_items c.self.inside.closed.words) c.place_at.result c.word.result c.word.ensures) ∙ (ap (λ i. get_or (slots_items c.self.inside.closed.words) i 0) c.place_at.ensures ∙ ap (λ b. word_left b (place_of c.args.place)) c.self.view_is))
