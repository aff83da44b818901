use Rattle.std.proofs.Common.{rules, ◌≡◌, All, subst, sym}
use Rattle.std.proofs.lemmas.List.Elements.{All-push}
use Rattle.workers.proofs.running.begin_all.Goals as goal

pub loop-alloc-preserved : goal.loop-alloc-preserved
loop-alloc-preserved g c =
    let was = c.loop-alloc.invariant in (
      search rules,
      search rules,
      subst (λ ts. All (λ t. t.code ≡ c.args.code.now) ts) (sym c.push_reserved.ensures.items)
          (All-push (λ t. t.code ≡ c.args.code.now) c.loop-alloc.tasks.items c.in_ok-begin.field-0 was.2 c.in_ok-begin.ensures),
    )
