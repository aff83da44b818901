use Rattle.std.proofs.Common.{rules, ◌≡◌, length}
use Rattle.workers.proofs.Replacements.{installs_next}
use Rattle.workers.proofs.reclaimer.Reclaimer.new.Goals as goal

pub loop-method-preserved : goal.loop-method-preserved
loop-method-preserved g c =
    let was = c.loop-method.invariant in
    let long : length c.loop-method.in_use.items ≡ c.loop-method.method = search (rules, was) in (
      search rules,
      search rules,
      search rules,
      search rules,
      installs_next c.loop-method.in_use.items c.loop-method.installed.items c.in_ok-serial.serial c.in_ok-serial.receipt c.loop-method.method _ _ long was.4
          c.in_ok-serial.ensures c.push_reserved.ensures.items c.push_reserved-in-loop-method.ensures.items,
    )
