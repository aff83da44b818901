-- An empty table has no codes.
use Rattle.std.proofs.Common.{◌≡◌, ℕ, None, refl, rules}
use Rattle.method_table.specs.Slots.{slot_in}
use Rattle.method_table.proofs.KeptLemmas.{empty_kept}
use Rattle.method_table.proofs.table.MethodTable.new.Goals as goal

pub invariant_of-result : goal.invariant_of-result
invariant_of-result c =
    let none : (serial : ℕ) → slot_in c.new-2.result serial ≡ None = λ serial. rw c.new-2.ensures.empty refl in
    empty_kept _ _ c.args.slots c.args.methods _ _ c.new-4.ensures c.new.ensures.items none (search rules) (search rules)
