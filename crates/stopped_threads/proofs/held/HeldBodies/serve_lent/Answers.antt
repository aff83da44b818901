use Rattle.std.proofs.Common.{◌≡◌, ◌<◌, Some, List, refl, sym, subst, rules, length}
use Rattle.std.specs.Prelude.{slice_get}
use Rattle.std.proofs.lemmas.Option.{slice_get_read}
use Rattle.bodies.specs.Bodies.{BodyView}
use Rattle.stopped_threads.proofs.Apart.{known, changed, among_set}
use Rattle.stopped_threads.proofs.held.HeldBodies.serve_lent.Goals as goal

pub invariant_of-self : goal.invariant_of-self
invariant_of-self g c =
    let i = c.self.inside in let m = c.self.invariant in let bs = i.bodies.items in let e = c.serve_lent.ensures in
    let low : c.args.index < length bs = subst (λ (xs : List BodyView). c.args.index < length xs) (sym c.self.view_is) c.requires.index in
    let here : slice_get bs c.args.index ≡ Some c.index_mut.result.now = slice_get_read bs _ c.args.index c.index_mut.result.now refl low c.index_mut.ensures.value in
    (m.0, m.1, search rules, changed i.places bs c.args.index c.index_mut.result.now c.serve_lent.new.body m.3 here e.same.1 e.same.0 (e.stored (known i.places bs c.args.index c.index_mut.result.now m.3 here).1), among_set i.came bs c.args.index c.index_mut.result.now c.serve_lent.new.body m.4 here e.same.1)
