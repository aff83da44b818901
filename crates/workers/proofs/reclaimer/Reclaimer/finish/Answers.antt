use Rattle.std.proofs.Common.{rules, ◌≡◌, ◌∙◌, List, ℕ, ap, subst}
use Rattle.workers.specs.Replacing.{Codes, AreFreed}
use Rattle.workers.proofs.reclaimer.Reclaimer.finish.Goals as goal

pub returns-clause-freed : goal.returns-clause-freed
returns-clause-freed g c =
    let left : c.deref.result.now ≡ c.args.self.left = c.deref.ensures.value ∙ ap (λ (s : Codes). s.left) c.self.view_is in
    let in_use : c.deref-2.result.now ≡ c.args.self.in_use = c.deref-2.ensures.value ∙ ap (λ (s : Codes). s.in_use) c.self.view_is in
    let freed : c.self.inside.freed.items ≡ c.args.self.freed = ap (λ (s : Codes). s.freed) c.self.view_is in
    let (one, first, is_one) = c.in_ok-reclaim_all.ensures.some in
    let (two, second, is_two) = c.in_ok-reclaim_all-2.ensures.some in (
      c.reclaim_all.new.freed.items,
      (one, search (rules, freed), subst (λ (ss : List ℕ). AreFreed ss one) left is_one),
      (two, second, subst (λ (ss : List ℕ). AreFreed ss two) in_use is_two),
    )
