use Rattle.std.proofs.lemmas.Result.{err_from_is_err_and}
use Rattle.script.proofs.MethodsSoFar.{methods_start, methods_next, methods_refused, methods_whole}
use Rattle.script.proofs.reading.read_methods.Goals as goal

pub loop-number-init : goal.loop-number-init
loop-number-init c = methods_start _ _ _ _ c.new-methods.ensures.items c.requires.items c.requires.place

pub loop-number-preserved : goal.loop-number-preserved
loop-number-preserved c =
    let s = c.loop-number in
    let done = c.in_ok-read_method in
    let value = c.deref-value-items.ensures.value in
    rw c.in_ok-push.ensures.items (methods_next _ s.number s.walk.items s.methods.items s.walk.place s.invariant c.value-item.result done.field-0 _ _
    (rw (← value) c.loop-number-test.true) (rw (← value) c.value-item.is)
    done.ensures.ok done.ensures.clean done.ensures.items done.ensures.place)

pub returns-clause-ok : goal.returns-clause-ok
returns-clause-ok c =
    let s = c.loop-number in
    (methods_whole c.args.values.now.items s.number s.walk.items s.methods.items s.walk.place s.invariant (rw (← c.deref-value-items.ensures.value) c.loop-number-test.false)).0

pub returns-clause-clean : goal.returns-clause-clean
returns-clause-clean c =
    let s = c.loop-number in
    (methods_whole c.args.values.now.items s.number s.walk.items s.methods.items s.walk.place s.invariant (rw (← c.deref-value-items.ensures.value) c.loop-number-test.false)).1

pub returns-in_err-read_method-clause-err : goal.returns-in_err-read_method-clause-err
returns-in_err-read_method-clause-err c =
    let p = err_from_is_err_and c.from_residual.result c.from_residual.ensures.1 in
    let s = c.loop-number in
    let value = c.deref-value-items.ensures.value in
    rw (p.1, p.2) (methods_refused _ s.number s.walk.items s.methods.items s.walk.place s.invariant c.value-item.result c.in_err-read_method.field-0.0
    (rw (← value) c.loop-number-test.true) (rw (← value) c.value-item.is) c.in_err-read_method.ensures.err)
