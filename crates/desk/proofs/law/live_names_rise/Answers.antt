use Rattle.desk.proofs.Rising.{live_names_rise}
use Rattle.desk.proofs.law.live_names_rise.Goals as goal

pub returns : goal.returns
returns c = live_names_rise
