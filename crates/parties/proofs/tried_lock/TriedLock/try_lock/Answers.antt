use Rattle.std.proofs.Common.{rules, ◌≡◌, ◌∙◌, ◌∷◌, Some, sym, ap, arith}
use Rattle.atomic_table.specs.Table.{rest}
use Rattle.parties.proofs.LockSteps.{tries}
use Rattle.parties.proofs.tried_lock.TriedLock.try_lock.Goals as goal

pub swap_new_seat-found-requires : goal.swap_new_seat-found-requires
swap_new_seat-found-requires g c = let wide = c.self.invariant.0 in (omega arith, tries _ c.self.invariant.1)

pub exchange-requires : goal.exchange-requires
exchange-requires g c =
    let free : c.swap_new_seat-found.result.0 ≡ 0 = search rules in
    let has = c.swap_new_seat-found.ensures.1 free in
    (c.swap_new_seat-found.ensures.0, (Some has.0, has.1 ∙ ap (λ l. (0, Some has.0) ∷ rest l) (sym has.1)))
