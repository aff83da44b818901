use Rattle.std.proofs.Common.{◌∙◌, rules, arith}
use Rattle.std.proofs.lemmas.Grind.{common_steps}
use Rattle.thread_list.proofs.Turned.{vacates}
use Rattle.thread_list.proofs.running_thread.RunningThread.vacate.Goals as goal

pub returns-in-Ok-clause-vacated : goal.returns-in-Ok-clause-vacated
returns-in-Ok-clause-vacated g c =
    vacates _ _ _ c.publish.new.self c.in-Ok.ensures.receipt (search rules) (search rules) (c.publish.ensures.frames_stay ∙ grind (arith, common_steps)) c.publish.ensures.settled
