use Rattle.std.proofs.Common.{◌≡◌, ◌<◌, Some, List, refl, sym, subst, rules, length, arith}
use Rattle.std.specs.Prelude.{slice_get}
use Rattle.std.proofs.lemmas.Option.{slice_get_read}
use Rattle.bodies.specs.Bodies.{BodyView}
use Rattle.stopped_threads.proofs.Apart.{known, removed, among_removed}
use Rattle.stopped_threads.proofs.held.HeldBodies.take.Goals as goal

pub invariant_of-self : goal.invariant_of-self
invariant_of-self g c =
    let i = c.self.inside in let m = c.self.invariant in
    let k = removed i.places i.bodies.items c.args.index m.3 in
    let l = among_removed i.came i.bodies.items c.args.index m.4 in
    (m.0, m.1, search rules, search (rules, k), search (rules, l))

pub invariant_of-result : goal.invariant_of-result
invariant_of-result g c =
    let i = c.self.inside in let bs = i.bodies.items in
    let low : c.args.index < length bs = subst (λ (xs : List BodyView). c.args.index < length xs) (sym c.self.view_is) c.requires.index in
    let here : slice_get bs c.args.index ≡ Some c.remove-body.result = slice_get_read bs _ c.args.index c.remove-body.result refl low c.remove-body.ensures.value in
    let k = known i.places bs c.args.index c.remove-body.result c.self.invariant.3 here in
    let most = c.self.invariant.1 in let low = k.2 in
    (k.0, k.1, omega (arith, most, low))

pub returns-clause-body : goal.returns-clause-body
returns-clause-body g c =
    let bs = c.self.inside.bodies.items in
    let low : c.args.index < length bs = subst (λ (xs : List BodyView). c.args.index < length xs) (sym c.self.view_is) c.requires.index in
    let here : slice_get bs c.args.index ≡ Some c.remove-body.result = slice_get_read bs _ c.args.index c.remove-body.result refl low c.remove-body.ensures.value in
    subst (λ (xs : List BodyView). slice_get xs c.args.index ≡ Some c.remove-body.result) c.self.view_is here
