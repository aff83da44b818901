use Rattle.std.proofs.Common.{◌≡◌, ◌<◌, ◌∙◌, false, ap, rules, arith, length}
use Rattle.std.specs.Prelude.{vec_len}
use Rattle.stopped_threads.specs.Held.{is_held}
use Rattle.stopped_threads.proofs.Apart.{room, pushed, among_pushed}
use Rattle.stopped_threads.proofs.held.HeldBodies.push.Goals as goal

pub overflow_shl-self : goal.overflow_shl-self
overflow_shl-self g c =
    let m = c.self.invariant in let b = c.place.ensures.bound in let v = c.place.ensures.value in let n = m.0 in let k = m.1 in
    omega arith

pub push_reserved-requires : goal.push_reserved-requires
push_reserved-requires g c =
    let i = c.self.inside in let m = c.self.invariant in
    let apart : is_held c.args.body.seat.place i.bodies.items ≡ false = ap (is_held c.args.body.seat.place) c.self.view_is ∙ c.requires.apart in
    let low : c.args.body.seat.place < i.places = (let v = c.place.ensures.value in let b = c.place.ensures.bound in let n = m.0 in omega arith) in
    let k = room i.places c.args.body i.bodies.items m.3 low apart in
    let n : vec_len i.bodies ≡ length i.bodies.items = search rules in
    let cap = m.2 in
    omega arith

pub invariant_of-self : goal.invariant_of-self
invariant_of-self g c =
    let i = c.self.inside in let m = c.self.invariant in
    let apart : is_held c.args.body.seat.place i.bodies.items ≡ false = ap (is_held c.args.body.seat.place) c.self.view_is ∙ c.requires.apart in
    let low : c.args.body.seat.place < i.places = (let v = c.place.ensures.value in let b = c.place.ensures.bound in let n = m.0 in omega arith) in
    let k = pushed i.places i.bodies.items c.args.body m.3 low c.requires.body.0 c.requires.body.1 apart in
    let few : c.args.body.seat.place < 64 = (let n = m.1 in omega arith) in
    let l = among_pushed i.came i.bodies.items c.args.body few m.4 in
    (m.0, m.1, search rules, search (rules, k), search (rules, l))
