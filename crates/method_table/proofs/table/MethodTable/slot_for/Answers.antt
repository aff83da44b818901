-- The first failed test is the first reason, and the slot found is the least free one.
use Rattle.std.proofs.Common.{◌≡◌, ◌<◌, Some, None, ap, sym, ◌∙◌, rules, List, length}
use Rattle.method_table.specs.declared.Code.{Code}
use Rattle.method_table.specs.Kept.{least_free}
use Rattle.method_table.proofs.KeptLemmas.{free_is, why_full, why_spent, why_not}
use Rattle.method_table.proofs.table.MethodTable.slot_for.Goals as goal

pub returns-in_default-clause-refused : goal.returns-in_default-clause-refused
returns-in_default-clause-refused c =
    let within : c.args.method < length c.self.inside.current.items = (let l = c.if-method-len.false in search rules) in
    let free : least_free c.self.inside.records.items c.self.inside.slots ≡ None = ap (λ (records : List Code). least_free records c.self.inside.slots) (sym c.deref.ensures.value) ∙ (sym c.least_free.ensures ∙ c.in_default.is) in
    rw (← c.self.view_is) (why_full _ _ _ _ _ _ _ c.self.invariant c.args.method within free)

pub returns-then-self-gt-LAST-clause-refused : goal.returns-then-self-gt-LAST-clause-refused
returns-then-self-gt-LAST-clause-refused c =
    let within : c.args.method < length c.self.inside.current.items = (let l = c.if-method-len.false in search rules) in
    let free : least_free c.self.inside.records.items c.self.inside.slots ≡ Some c.in-Some.slot = ap (λ (records : List Code). least_free records c.self.inside.slots) (sym c.deref.ensures.value) ∙ (sym c.least_free.ensures ∙ c.in-Some.is) in
    rw (← c.self.view_is) (why_spent _ _ _ _ _ _ _ c.self.invariant c.args.method within c.in-Some.slot free c.if-self-gt-LAST.true)

pub returns-clause-accepted : goal.returns-clause-accepted
returns-clause-accepted c =
    let within : c.args.method < length c.self.inside.current.items = (let l = c.if-method-len.false in search rules) in
    let free : least_free c.self.inside.records.items c.self.inside.slots ≡ Some c.in-Some.slot = ap (λ (records : List Code). least_free records c.self.inside.slots) (sym c.deref.ensures.value) ∙ (sym c.least_free.ensures ∙ c.in-Some.is) in
    rw (← c.self.view_is) (why_not _ _ _ _ _ _ _ c.self.invariant c.args.method within c.in-Some.slot free c.if-self-gt-LAST.false)

pub returns-clause-slot : goal.returns-clause-slot
returns-clause-slot c =
    let free : least_free c.self.inside.records.items c.self.inside.slots ≡ Some c.in-Some.slot = ap (λ (records : List Code). least_free records c.self.inside.slots) (sym c.deref.ensures.value) ∙ (sym c.least_free.ensures ∙ c.in-Some.is) in
    rw (← c.self.view_is) (sym (free_is _ _ _ _ _ _ _ c.self.invariant) ∙ free)
