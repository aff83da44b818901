use Rattle.board.proofs.Elsewhere.{entries_elsewhere_refused}
use Rattle.board.proofs.law.no_entry_is_of_another_word.Goals as goal

pub returns : goal.returns
returns c = entries_elsewhere_refused
