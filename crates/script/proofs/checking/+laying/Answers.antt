use Rattle.std.proofs.Common.{◌≡◌, ℕ, ◌∷◌, ◌++◌, [], length, ap, ◌∙◌, arith}
use Rattle.script.specs.declared.code.Op.TheVariants.{Edge}
use Rattle.script.proofs.CheckedSoFar.{checked_next, checked_whole}
use Rattle.script.proofs.ItemChecked.{ItemChecked, checked_action, checked_loop}
use Rattle.script.proofs.checking.+laying.Goals as goal
use Rattle.script.proofs.checking.+laying.Goals.{lay_item-in-Action+in_ok-lay_action-in-Action, lay_item-in-Loop+else-turns-eq0+else-turns-gt-MAX_TURNS+else-level-ge-MAX_LEVELS+in_ok-lay_items-in-Loop+in_ok-push-in-Loop}

checked_of : {t : ℕ} (c : goal.lay_item-After-leave t) → ItemChecked c.args.count c.args.level c.args.walk.now.place c.args.number c.args.ops.now.items c.match-item.ops.items c.args.item.now
checked_of c =
    let place = c.args.walk.now.place in
    let here : c.enter.new.self ≡ place ++ c.args.number ∷ [] = c.in_ok-enter.ensures.ok in
    elim c.match-item.branch [
      | lay_item-in-Action+in_ok-lay_action-in-Action w ↦
          let done = w.in_ok-lay_action-in-Action in
          rw w.ops-is (checked_action c.args.count c.args.level place c.args.number c.args.ops.now.items w.lay_action.new.ops.items w.in-Action.action c.args.item.now w.in-Action.is
          (rw (← here) done.ensures.clean) done.ensures.ops)
      | lay_item-in-Loop+else-turns-eq0+else-turns-gt-MAX_TURNS+else-level-ge-MAX_LEVELS+in_ok-lay_items-in-Loop+in_ok-push-in-Loop w ↦
          let done = w.in_ok-lay_items-in-Loop in
          let start : w.len-start.result ≡ length c.args.ops.now.items = omega (arith, w.len-start.ensures, c.args.ops.now.ok) in
          rw w.ops-is (checked_loop c.args.count c.args.level place c.args.number c.args.ops.now.items w.lay_items.new.ops.items w.push.new.self.items w.in-Loop.turns w.in-Loop.body c.args.item.now w.in-Loop.is
          (omega (arith, w.if-turns-eq0.false)) w.if-turns-gt-MAX_TURNS.false w.if-level-ge-MAX_LEVELS.false
          done.ensures.ops (w.in_ok-push-in-Loop.ensures.items ∙ ap (λ (s : ℕ). w.lay_items.new.ops.items ++ Edge w.in-Loop.turns s c.args.level ∷ []) start) (rw (← here) done.ensures.clean))
    ]

pub lay_item-returns-clause-ops : goal.lay_item-returns-clause-ops
lay_item-returns-clause-ops t c = (checked_of c).steps

pub lay_item-returns-clause-clean : goal.lay_item-returns-clause-clean
lay_item-returns-clause-clean t c = (checked_of c).clean

pub lay_items-loop-number-preserved : goal.lay_items-loop-number-preserved
lay_items-loop-number-preserved t c =
    let s = c.loop-number in
    let done = c.in_ok-lay_item in
    let value = c.deref-item-items.ensures.value in
    checked_next _ _ _ _ _ s.number s.ops.items s.walk.place s.invariant c.item-item.result _ _
    (rw (← value) c.loop-number-test.true) (rw (← value) c.item-item.is)
    done.ensures.ops done.ensures.clean done.ensures.place

pub lay_items-returns-clause-ops : goal.lay_items-returns-clause-ops
lay_items-returns-clause-ops t c =
    let s = c.loop-number in
    (checked_whole _ _ _ _ _ s.number s.ops.items s.walk.place s.invariant (rw (← c.deref-item-items.ensures.value) c.loop-number-test.false)).steps

pub lay_items-returns-clause-clean : goal.lay_items-returns-clause-clean
lay_items-returns-clause-clean t c =
    let s = c.loop-number in
    (checked_whole _ _ _ _ _ s.number s.ops.items s.walk.place s.invariant (rw (← c.deref-item-items.ensures.value) c.loop-number-test.false)).clean
