use Rattle.std.proofs.Common.{◌≡◌, ◌<◌, Some, refl, rules, length}
use Rattle.std.specs.Prelude.{slice_get}
use Rattle.std.proofs.lemmas.Option.{slice_get_read}
use Rattle.thread_list.specs.Moves.{IsCleared}
use Rattle.stopped_threads.proofs.Each.{at_next, at_last, cleared_none}
use Rattle.stopped_threads.proofs.held.clear_all.Goals as goal

pub loop-index-preserved : goal.loop-index-preserved
loop-index-preserved g c =
    let l = c.loop-index in let bs = l.bodies.items in
    let low : l.index < length bs = search rules in
    let here : slice_get bs l.index ≡ Some c.index_mut.result.now = slice_get_read bs _ l.index c.index_mut.result.now refl low c.index_mut.ensures.value in
    (at_next (IsCleared c.args.number) l.index c.args.bodies.now.items bs c.index_mut.result.now c.clear.new.self l.invariant.0 here ((λ ne. (c.clear.ensures.step.0, c.clear.ensures.step.1)), c.clear.ensures.others.0, c.clear.ensures.others.1, c.clear.ensures.others.2), l.invariant.1)

pub returns-clause-cleared : goal.returns-clause-cleared
returns-clause-cleared g c = let l = c.loop-index in
    at_last (IsCleared c.args.number) l.index c.args.bodies.now.items l.bodies.items l.invariant.0 (search rules)

pub returns-then-number-eq0-clause-cleared : goal.returns-then-number-eq0-clause-cleared
returns-then-number-eq0-clause-cleared g c = cleared_none c.args.number _ (search rules)
