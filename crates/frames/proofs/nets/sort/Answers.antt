use Rattle.std.proofs.Common.{◌≡◌, ◌∙◌, ℕ, not, rules, sym, subst}
use Rattle.std.specs.List.Sorted.{IsPermutation}
use Rattle.std.proofs.lemmas.Fn.{always_returns_same}
use Rattle.std.proofs.lemmas.List.Elements.{filter_from_retain}
use Rattle.frames.specs.declared.Change.{Change}
use Rattle.frames.specs.Nets.{is_zero}
use Rattle.frames.proofs.Totals.{sorted_settled, turned_settled, turned_once, rising_settled}
use Rattle.frames.proofs.nets.sort.Goals as goal

pub returns-then-rises-clause-items : goal.returns-then-rises-clause-items
returns-then-rises-clause-items c =
    let turned = c.turn.new.nets.items in
    let rising = rw c.deref.ensures.value at (c.rises.ensures c.if-rises.true) in
    sym (rising_settled turned rising) ∙ turned_settled c.args.nets.now.items turned c.turn.ensures.same

pub returns-clause-items : goal.returns-clause-items
returns-clause-items c =
    let turned = c.turn.new.nets.items in
    let kept = filter_from_retain _ (λ (e : Change). not (is_zero e.by)) (λ p x b q k. search rules) _ _ _ c.retain.ensures.filtered in
    let key : Change → ℕ × ℕ = λ e. (e.code.serial, e.code.slot) in
    let sorted = c.sort_unstable_by_key.ensures.sorted key (always_returns_same _ (λ a r. r ≡ key a.0.now) _ (λ a r q k. search rules)) in
    let once = turned_once c.args.nets.now.items turned c.requires.once c.turn.ensures.same in
    sorted_settled turned c.sort_unstable_by_key.new.self.items once (subst (λ xs. IsPermutation xs c.sort_unstable_by_key.new.self.items) kept c.sort_unstable_by_key.ensures.permutation) sorted
    ∙ turned_settled c.args.nets.now.items turned c.turn.ensures.same
