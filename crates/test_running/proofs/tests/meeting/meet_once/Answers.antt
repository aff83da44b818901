use Rattle.std.proofs.Common.{refl, rules}
use Rattle.operations.proofs.Boxed.{answered}
use Rattle.test_running.proofs.tests.meeting.meet_once.OwnLists as own
use Rattle.test_running.proofs.tests.meeting.meet_once.Goals as goal

pub new-requires-in-loop-name-2-clause-answers : goal.new-requires-in-loop-name-2-clause-answers
new-requires-in-loop-name-2-clause-answers g c = λ i r s w.
    answered own.own-1 (own.own-1.entry own.at-1-1) own.at-1-1 refl c.into_dyn_box.result.vtable c.into_dyn_box.result.value _
    c.into_dyn_box.ensures.1 (i, tt) r _ (λ x' k. (let m = k.met in search rules)) w.1.0 w.1.1
