use Rattle.std.proofs.Common.{◌≡◌, ◌∙◌, ℕ, Option, Some, false, sym, ap, subst}
use Rattle.desk.specs.Machine.{Stands}
use Rattle.desk.specs.Fields.{at}
use Rattle.desk.specs.Refusals.{close_refused, chosen, oldest_of, holds_target}
use Rattle.stopped_threads.specs.Holding.{Holding}
use Rattle.coordinator.proofs.Oldest.{same_number}
use Rattle.coordinator.proofs.coordinator.Coordinator.try_close.Goals as goal

pub returns-in-Err-clause-refused : goal.returns-in-Err-clause-refused
returns-in-Err-clause-refused g c =
    let s = at c.deref_mut.result.now in
    let held = c.as_slice.ensures.value ∙ ap (λ (v : Holding). v.held) c.self.view_is in
    (s, subst (λ bs. close_refused s c.args.number bs c.in-Err.fault) held c.in-Err.ensures.err.1)

pub returns-clause-closed : goal.returns-clause-closed
returns-clause-closed g c =
    let held = c.as_slice.ensures.value ∙ ap (λ (v : Holding). v.held) c.self.view_is in
    let e = c.in-Ok.ensures in
    let picked = e.chosen in
    (ap (λ (r : Stands). r.entry) e.ok.receipt_is, (at c.deref_mut.result.now, (picked.0, picked.1, picked.2, subst (λ bs. holds_target picked.0.request bs ≡ false) held picked.4)))

pub returns-clause-oldest : goal.returns-clause-oldest
returns-clause-oldest g c = λ none.
    let s = at c.deref_mut.result.now in
    let e = c.in-Ok.ensures in
    let picked : oldest_of s.opened ≡ Some e.chosen.0 = subst (λ (n : Option ℕ). chosen n s.opened ≡ Some e.chosen.0) none e.chosen.1 in
    e.oldest.2 ∙ (same_number s.opened e.oldest.0 e.chosen.0 e.oldest.1 picked ∙ sym e.chosen.2)
