use Rattle.std.proofs.Common.{◌≡◌, true, false, drop, get_or, [], List, ℕ, subst, arith}
use Rattle.std.proofs.lemmas.List.{drop_all}
use Rattle.frames.specs.declared.Change.{Change}
use Rattle.frames.specs.Nets.{is_zero, is_in}
use Rattle.frames.proofs.Cells.{tested, some_live, none_live, left_zero}
use Rattle.frames.proofs.nets.are_back.Goals as goal

pub returns-then-has_net : goal.returns-then-has_net
returns-then-has_net c =
    let x : Change = c.index-cells-place.result in
    let place = c.requires.places c.loop-place.place-index 0 c.loop-place-test.true in
    let k : ℕ = get_or c.args.touched.now c.loop-place.place-index 0 in
    let some = tested c.has_net.result (is_zero x.by) c.has_net.ensures c.if-has_net.true in
    some_live c.args.cells.now k x (omega arith) (subst (λ (e : Change). is_zero e.by ≡ false) c.index-cells-place.is some)

pub returns : goal.returns
returns c =
    let none : drop c.loop-place.place-index c.args.touched.now ≡ [] = drop_all c.loop-place.place-index c.args.touched.now (omega arith) in
    none_live c.args.cells.now (λ k d lt. left_zero (is_zero (get_or c.args.cells.now k d).by) (λ some. subst (λ (ks : List ℕ). is_in k ks ≡ true) none (c.loop-place.invariant k d (omega arith) some)))
