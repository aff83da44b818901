use Rattle.std.proofs.Common.{◌≡◌, ℕ, Some, ◌∷◌, ◌++◌, [], sym, ap, ◌∙◌, arith}
use Rattle.std.proofs.lemmas.Result.{err_from_is_err_and}
use Rattle.script.proofs.Sketches.{is_loop}
use Rattle.serde_json.specs.Data.{Data}
use Rattle.serde_json.specs.View.{view, items_view}
use Rattle.script.specs.Shape.{shape}
use Rattle.script.specs.Seen.{shape_view}
use Rattle.script.specs.declared.shape.Shape.{Shape}
use Rattle.script.specs.declared.shape.Shape.TheVariants.{Action, Loop}
use Rattle.script.proofs.ItemRead.{ItemRead, item_one, item_many, inside_first}
use Rattle.script.proofs.reading.+reading.Goals.{read_item-in-Action, read_item-in-Loop+in_ok-read_items-in-Loop}
use Rattle.script.proofs.SoFar.{so_far_start, so_far_next, so_far_refused, so_far_whole, item_depth}
use Rattle.script.proofs.reading.+reading.Goals as goal

shape_is : (d : Data) (s x : Shape) → Some (shape_view s) ≡ shape d → s ≡ x → shape d ≡ Some (shape_view x)
shape_is d s x e is = sym e ∙ ap (λ y. Some (shape_view y)) is

pub read_items-loop-number-init : goal.read_items-loop-number-init
read_items-loop-number-init t c = so_far_start _ _ _ _ c.new-items.ensures.items

pub read_items-read_item-requires : goal.read_items-read_item-requires
read_items-read_item-requires t c =
    let value = c.deref-value-items.ensures.value in
    let less = item_depth c.args.values.now.items c.loop-number.number c.value-item.result (rw (← value) c.loop-number-test.true) (rw (← value) c.value-item.is) in
    (omega (arith, c.decreases, less), tt)

pub read_items-returns-in_err-read_item-clause-err :
    goal.read_items-returns-in_err-read_item-clause-err
read_items-returns-in_err-read_item-clause-err t c =
    let p = err_from_is_err_and c.from_residual.result c.from_residual.ensures.1 in
    let s = c.loop-number in
    let value = c.deref-value-items.ensures.value in
    rw (p.1, p.2) (so_far_refused _ _ _ s.number s.walk.items s.items.items s.walk.place s.invariant c.value-item.result c.in_err-read_item.field-0.0
    (rw (← value) c.loop-number-test.true) (rw (← value) c.value-item.is) c.in_err-read_item.ensures.err)

pub read_items-loop-number-preserved : goal.read_items-loop-number-preserved
read_items-loop-number-preserved t c =
    let s = c.loop-number in
    let done = c.in_ok-read_item in
    rw c.in_ok-push.ensures.items (so_far_next _ _ _ s.number s.walk.items s.items.items s.walk.place s.invariant c.value-item.result done.field-0 _ _
    (rw (← c.deref-value-items.ensures.value) c.loop-number-test.true)
    (rw (← c.deref-value-items.ensures.value) c.value-item.is)
    done.ensures.ok done.ensures.clean done.ensures.items done.ensures.place)

pub read_items-returns-clause-ok : goal.read_items-returns-clause-ok
read_items-returns-clause-ok t c =
    let s = c.loop-number in
    (so_far_whole _ _ _ s.number s.walk.items s.items.items s.walk.place s.invariant (rw (← c.deref-value-items.ensures.value) c.loop-number-test.false)).ok

pub read_items-returns-clause-clean : goal.read_items-returns-clause-clean
read_items-returns-clause-clean t c =
    let s = c.loop-number in
    (so_far_whole _ _ _ s.number s.walk.items s.items.items s.walk.place s.invariant (rw (← c.deref-value-items.ensures.value) c.loop-number-test.false)).clean

pub read_items-returns-clause-items : goal.read_items-returns-clause-items
read_items-returns-clause-items t c =
    let s = c.loop-number in
    (so_far_whole _ _ _ s.number s.walk.items s.items.items s.walk.place s.invariant (rw (← c.deref-value-items.ensures.value) c.loop-number-test.false)).items

pub read_item-read_items-requires : goal.read_item-read_items-requires
read_item-read_items-requires t c =
    let is = shape_is (view c.args.value.now) c.in-Some.shape (Loop c.in-Loop.turns c.in-Loop.body) c.in-Some.ensures c.in-Loop.is in
    let looped = is_loop (view c.args.value.now) c.in-Loop.turns (items_view c.in-Loop.body.now.items) is in
    (omega (arith, c.decreases, looped.depth), tt)

pub read_item-returns-in_err-read_items-in-Loop-clause-err :
    goal.read_item-returns-in_err-read_items-in-Loop-clause-err
read_item-returns-in_err-read_items-in-Loop-clause-err t c =
    let p = err_from_is_err_and c.from_residual-in_err-read_items-in-Loop.result c.from_residual-in_err-read_items-in-Loop.ensures.1 in
    let is = shape_is (view c.args.value.now) c.in-Some.shape (Loop c.in-Loop.turns c.in-Loop.body) c.in-Some.ensures c.in-Loop.is in
    let here : c.enter.new.self ≡ c.args.walk.now.place ++ c.args.number ∷ [] = c.in_ok-enter.ensures.ok in
    rw (p.1, p.2) (λ rest. inside_first (view c.args.value.now) c.args.walk.now.place c.args.number c.args.walk.now.items c.in-Loop.turns (items_view c.in-Loop.body.now.items)
    c.in_err-read_items-in-Loop.field-0.0 rest is c.if-walk-ge-MAX_ITEMS.false (rw (← here) c.in_err-read_items-in-Loop.ensures.err))

read_of : {t : ℕ} (c : goal.read_item-After-leave t) → ItemRead (view c.args.value.now) c.args.walk.now.place c.args.number c.args.walk.now.items c.match-shape.walk.items c.match-shape.item
read_of c =
    let d = view c.args.value.now in
    let place = c.args.walk.now.place in
    let here : c.enter.new.self ≡ c.args.walk.now.place ++ c.args.number ∷ [] = c.in_ok-enter.ensures.ok in
    elim c.match-shape.branch [
      | read_item-in-Action w ↦
          let is = shape_is d c.in-Some.shape (Action w.in-Action.action) c.in-Some.ensures w.in-Action.is in
          rw w.walk-is (item_one d place c.args.number c.args.walk.now.items w.in-Action.action c.match-shape.item is c.if-walk-ge-MAX_ITEMS.false w.item-is)
      | read_item-in-Loop+in_ok-read_items-in-Loop w ↦
          let is = shape_is d c.in-Some.shape (Loop w.in-Loop.turns w.in-Loop.body) c.in-Some.ensures w.in-Loop.is in
          let done = w.in_ok-read_items-in-Loop in
          rw w.walk-is (item_many d place c.args.number c.args.walk.now.items w.read_items.new.walk.items w.in-Loop.turns (items_view w.in-Loop.body.now.items) done.field-0 c.match-shape.item is c.if-walk-ge-MAX_ITEMS.false w.item-is
          done.ensures.ok (rw (← here) done.ensures.clean) done.ensures.items)
    ]

pub read_item-returns-clause-ok : goal.read_item-returns-clause-ok
read_item-returns-clause-ok t c = (read_of c).ok

pub read_item-returns-clause-clean : goal.read_item-returns-clause-clean
read_item-returns-clause-clean t c = (read_of c).clean

pub read_item-returns-clause-items : goal.read_item-returns-clause-items
read_item-returns-clause-items t c = (read_of c).items
