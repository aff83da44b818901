use Rattle.std.proofs.Common.{◌≡◌, ◌∙◌, Some, map, sym, ap, refl, rules}
use Rattle.std.specs.Prelude.{slice_get}
use Rattle.std.proofs.lemmas.Option.{slice_get_read}
use Rattle.operations.specs.Names.{among}
use Rattle.desk.specs.JobsFit.{without_first}
use Rattle.desk.proofs.JobsLeft.{first_taken, next_not, none_taken}
use Rattle.desk.proofs.lists.take_first.Goals as goal

pub returns-in-Some-clause-some : goal.returns-in-Some-clause-some
returns-in-Some-clause-some g c =
    let items = c.loop-place.jobs.items in let whom = g.J.HandshakeOp.whom in
    let here : slice_get items c.loop-place.place ≡ Some c.index.result.now = slice_get_read items _ c.loop-place.place c.index.result.now refl (search rules) c.index.ensures in
    let found = first_taken whom c.args.name c.loop-place.place items c.index.result.now c.loop-place.invariant.1 here (sym c.target_of.ensures ∙ c.if-target_of-name.true) in
    ap (λ jobs. among c.args.name (map whom jobs.items)) (sym c.loop-place.invariant.0) ∙ found.1

pub returns-in-Some-clause-left : goal.returns-in-Some-clause-left
returns-in-Some-clause-left g c =
    let items = c.loop-place.jobs.items in let whom = g.J.HandshakeOp.whom in
    let here : slice_get items c.loop-place.place ≡ Some c.index.result.now = slice_get_read items _ c.loop-place.place c.index.result.now refl (search rules) c.index.ensures in
    let found = first_taken whom c.args.name c.loop-place.place items c.index.result.now c.loop-place.invariant.1 here (sym c.target_of.ensures ∙ c.if-target_of-name.true) in
    ap (map whom) c.in-Some.ensures.items ∙ found.0 ∙ ap (λ jobs. without_first c.args.name (map whom jobs.items)) c.loop-place.invariant.0

pub loop-place-preserved : goal.loop-place-preserved
loop-place-preserved g c =
    let items = c.loop-place.jobs.items in
    let here : slice_get items c.loop-place.place ≡ Some c.index.result.now = slice_get_read items _ c.loop-place.place c.index.result.now refl (search rules) c.index.ensures in
    (c.loop-place.invariant.0, next_not g.J.HandshakeOp.whom c.args.name c.loop-place.place items c.index.result.now c.loop-place.invariant.1 here (λ is. c.if-target_of-name.false (c.target_of.ensures ∙ is)))

pub returns-clause-none : goal.returns-clause-none
returns-clause-none g c =
    let none = none_taken g.J.HandshakeOp.whom c.args.name c.loop-place.jobs.items (λ k j low here. c.loop-place.invariant.1 k j (search rules) here) in
    ap (λ jobs. among c.args.name (map g.J.HandshakeOp.whom jobs.items)) (sym c.loop-place.invariant.0) ∙ none.1

pub returns-clause-left : goal.returns-clause-left
returns-clause-left g c =
    let none = none_taken g.J.HandshakeOp.whom c.args.name c.loop-place.jobs.items (λ k j low here. c.loop-place.invariant.1 k j (search rules) here) in
    none.0 ∙ ap (λ jobs. without_first c.args.name (map g.J.HandshakeOp.whom jobs.items)) c.loop-place.invariant.0
