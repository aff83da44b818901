use Rattle.replay.proofs.Reading.{spelled, read}
use Rattle.replay.proofs.spelling.lines_spell_commands.Goals as goal

pub returns-clause-spelled : goal.returns-clause-spelled
returns-clause-spelled c = spelled

pub returns-clause-read : goal.returns-clause-read
returns-clause-read c = read
