use Rattle.std.proofs.Common.{rules, ◌≡◌, ◌∙◌, ◌+◌, All, subst, sym}
use Rattle.std.proofs.lemmas.List.Elements.{All-push}
use Rattle.workers.proofs.threads.start_all.Goals as goal

-- The task that is started stood first among the rest.
pub loop-task-preserved : goal.loop-task-preserved
loop-task-preserved g c =
    let was = c.loop-task.invariant in let step = c.in-Some.ensures.steps in
    let first : c.in-Some.task.code ≡ c.args.code.now = let h = was.2 0 c.in-Some.task in grind rules in
    let promised = c.in_ok-start.ensures ∙ first in (
      search rules,
      search rules,
      (λ k d below. let h = was.2 (k + 1) d in grind rules),
      subst (λ hs. All (λ h. h.promise.code.value ≡ c.args.code.now) hs) (sym c.push_reserved.ensures.items)
          (All-push (λ h. h.promise.code.value ≡ c.args.code.now) c.loop-task.handles.items c.in_ok-start.field-0 was.3 promised),
    )
