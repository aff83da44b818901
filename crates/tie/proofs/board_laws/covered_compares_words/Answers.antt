-- The core's comparison of moments, at the slot of the code.
use Rattle.tie.proofs.Covered as law
use Rattle.tie.proofs.board_laws.covered_compares_words.Goals as goal

pub returns : goal.returns
returns c = law.covered_compares_words
