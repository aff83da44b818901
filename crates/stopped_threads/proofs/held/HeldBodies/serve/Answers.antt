use Rattle.std.proofs.Common.{◌≡◌, ◌<◌, Some, List, refl, sym, subst, rules, length}
use Rattle.std.specs.Prelude.{slice_get}
use Rattle.std.proofs.lemmas.Option.{slice_get_read}
use Rattle.bodies.specs.Bodies.{BodyView}
use Rattle.stopped_threads.proofs.Apart.{known, changed, among_set}
use Rattle.stopped_threads.proofs.ServeLemmas.{serve_keeps}
use Rattle.stopped_threads.proofs.held.HeldBodies.serve.Goals as goal

pub invariant_of-self : goal.invariant_of-self
invariant_of-self g c =
    let i = c.self.inside in let m = c.self.invariant in let bs = i.bodies.items in
    let low : c.args.index < length bs = subst (λ (xs : List BodyView). c.args.index < length xs) (sym c.self.view_is) c.requires.index in
    let here : slice_get bs c.args.index ≡ Some c.index_mut.result.now = slice_get_read bs _ c.args.index c.index_mut.result.now refl low c.index_mut.ensures.value in
    let e = g.J.HandshakeOp in
    let kept = serve_keeps e.number e.whom e.asks e.may_answer c.told_job-job.result c.index_mut.result.now c.serve_body.new.body c.serve_body.result c.serve_body.ensures in
    (m.0, m.1, search rules, changed i.places bs c.args.index c.index_mut.result.now c.serve_body.new.body m.3 here kept.1 kept.0 (kept.2 (known i.places bs c.args.index c.index_mut.result.now m.3 here).1), among_set i.came bs c.args.index c.index_mut.result.now c.serve_body.new.body m.4 here kept.1)

pub returns : goal.returns
returns g c =
    let i = c.self.inside in let bs = i.bodies.items in
    let low : c.args.index < length bs = subst (λ (xs : List BodyView). c.args.index < length xs) (sym c.self.view_is) c.requires.index in
    let here : slice_get bs c.args.index ≡ Some c.index_mut.result.now = slice_get_read bs _ c.args.index c.index_mut.result.now refl low c.index_mut.ensures.value in
    let held : slice_get c.args.self.now c.args.index ≡ Some c.index_mut.result.now = subst (λ (xs : List BodyView). slice_get xs c.args.index ≡ Some c.index_mut.result.now) c.self.view_is here in
    (c.index_mut.result.now, c.serve_body.new.body, c.told_job-job.result, held, search rules, c.serve_body.ensures)
