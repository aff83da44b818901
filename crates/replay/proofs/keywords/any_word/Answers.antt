use Rattle.std.proofs.Common.{◌∙◌, sym, None, Some}
use Rattle.replay.proofs.Keys.{cut_at}
use Rattle.replay.proofs.keywords.any_word.Goals as goal

pub returns-in-None-clause-begun : goal.returns-in-None-clause-begun
returns-in-None-clause-begun c = cut_at c.find-end.result c.args.line.now None c.find-end.ensures.at (sym c.in-None.is ∙ c.word_of.ensures)

pub returns-in-Some-clause-begun : goal.returns-in-Some-clause-begun
returns-in-Some-clause-begun c = cut_at c.find-end.result c.args.line.now (Some c.in-Some.word) c.find-end.ensures.at (sym c.in-Some.is ∙ c.word_of.ensures)
