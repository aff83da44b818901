-- By induction over the events.
use Rattle.tie.proofs.PollLaws as law
use Rattle.tie.proofs.poll_row.rows_keep_the_rule.Goals as goal

pub returns : goal.returns
returns c = law.rows_keep_the_rule
