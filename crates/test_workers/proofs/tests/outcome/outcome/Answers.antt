use Rattle.std.proofs.Common.{rules, refl}
use Rattle.operations.proofs.Boxed.{answered}
use Rattle.workers.specs.Jobs.{AreForEach}
use Rattle.workers.proofs.Jobs.{depths_next}
use Rattle.thread_list.proofs.Popped.{all_push}
use Rattle.test_workers.proofs.tests.outcome.outcome.OwnLists as own
use Rattle.test_workers.proofs.tests.outcome.outcome.Goals as goal

-- The boxed callback answers what its closure does.
pub new-job-requires-clause-answers : goal.new-job-requires-clause-answers
new-job-requires-clause-answers g c = λ i r s w.
    answered own.own-1 (own.own-1.entry own.at-1-1) own.at-1-1 refl c.into_dyn_box.result.vtable c.into_dyn_box.result.value _
    c.into_dyn_box.ensures.1 (i, tt) r _ (λ x' k. (let m = k.met in search rules)) w.1.0 w.1.1

-- One more job, for the next thread.
pub loop-place-preserved : goal.loop-place-preserved
loop-place-preserved g c =
    let was = c.loop-place.invariant in
    (search rules, search rules, depths_next _ _ _ _ _ _ c.push_reserved.ensures.items was.2 (search (rules, was)) c.new-job.ensures.asks)

-- One more list, for the next method.
pub loop-alloc-preserved : goal.loop-alloc-preserved
loop-alloc-preserved g c =
    let was = c.loop-alloc.invariant in
    let list = c.loop-place.invariant in (
      search rules,
      search rules,
      all_push (λ js. AreForEach (λ j. j.target) (λ j. j.ask) c.args.threads js.items) c.loop-alloc.jobs.items _ c.loop-place.list
          c.push_reserved-in-loop-alloc.ensures.items was.2 (search (rules, list), list.2),
    )
