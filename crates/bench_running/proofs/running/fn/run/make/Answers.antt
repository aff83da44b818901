use borrow.Pointer.Called.{made_asks}
use Rattle.std.proofs.Common.{rules}
use Rattle.operations.proofs.Boxed.{answered}
use Rattle.bench_running.proofs.running.fn.run.make.Hides as hides
use Rattle.bench_running.proofs.running.fn.run.make.Goals as goal

-- The boxed callback may be called, and answers, as its closure.
pub new-requires-2 : goal.new-requires-2
new-requires-2 g c =
    let has = hides.has-1-1 g.dyn-1.0 g.dyn-1-has in
    record {
      callable = λ i s. made_asks g.dyn-1.0 _ (has.at tt) (has.same tt) c.into_dyn_box.ensures.1 (i, tt) (search rules);
      answers = λ i r s w.
          answered g.dyn-1.0 _ (has.at tt) (has.same tt) c.into_dyn_box.result.vtable c.into_dyn_box.result.value _
          c.into_dyn_box.ensures.1 (i, tt) r _ (λ x' k. (let m = k.met in search rules)) w.1.0 w.1.1;
    }
