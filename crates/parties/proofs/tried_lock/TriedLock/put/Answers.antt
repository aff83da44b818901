use Rattle.std.proofs.Common.{◌∙◌, ◌∷◌, Some, sym, ap, arith}
use Rattle.atomic_table.specs.Table.{rest}
use Rattle.parties.proofs.LockSteps.{puts_back}
use Rattle.parties.proofs.tried_lock.TriedLock.put.Goals as goal

pub store-requires : goal.store-requires
store-requires g c =
    let e = c.exchange.ensures in let wide = c.self.invariant.0 in (
      e.0 ∙ c.key.view_is ∙ c.requires ∙ sym c.self.view_is,
      omega arith,
      puts_back _ _ _ c.args.value c.self.invariant.1 (ap (λ m. m.1) e.3 ∙ ap (λ l. (0, Some c.args.value) ∷ rest l) c.key.invariant),
    )
