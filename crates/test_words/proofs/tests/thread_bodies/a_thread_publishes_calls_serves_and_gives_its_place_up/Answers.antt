use Rattle.std.proofs.Common.{refl, rules}
use Rattle.operations.proofs.Boxed.{answered}
use Rattle.test_words.proofs.tests.thread_bodies.a_thread_publishes_calls_serves_and_gives_its_place_up.OwnLists as own
use Rattle.test_words.proofs.tests.thread_bodies.a_thread_publishes_calls_serves_and_gives_its_place_up.Goals as goal

pub new-job-requires-clause-answers : goal.new-job-requires-clause-answers
new-job-requires-clause-answers g c = λ i r s w.
    answered own.own-1 (own.own-1.entry own.at-1-1) own.at-1-1 refl c.into_dyn_box.result.vtable c.into_dyn_box.result.value _ c.into_dyn_box.ensures.1 (i, tt) r _ (λ x' k. (let m = k.met in search rules)) w.1.0 w.1.1
