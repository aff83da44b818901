use Rattle.std.proofs.Common.{◌≡◌, ◌<◌, Some, refl, rules, length}
use Rattle.std.specs.Prelude.{slice_get}
use Rattle.std.proofs.lemmas.Option.{slice_get_read}
use Rattle.bodies.specs.Bodies.{IsPublished}
use Rattle.stopped_threads.proofs.Each.{at_next, at_last}
use Rattle.stopped_threads.proofs.held.publish_all.Goals as goal

pub loop-index-preserved : goal.loop-index-preserved
loop-index-preserved g c =
    let l = c.loop-index in let bs = l.bodies.items in
    let low : l.index < length bs = search rules in
    let here : slice_get bs l.index ≡ Some c.index_mut.result.now = slice_get_read bs _ l.index c.index_mut.result.now refl low c.index_mut.ensures.value in
    (at_next IsPublished l.index c.args.bodies.now.items bs c.index_mut.result.now c.publish.new.self l.invariant.0 here c.publish.ensures, l.invariant.1)

pub returns-clause-published : goal.returns-clause-published
returns-clause-published g c = let l = c.loop-index in
    at_last IsPublished l.index c.args.bodies.now.items l.bodies.items l.invariant.0 (search rules)
