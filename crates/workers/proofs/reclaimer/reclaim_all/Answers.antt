use Rattle.std.proofs.Common.{rules, ◌≡◌, ◌<◌, ◌+◌, [], ◌∷◌, ◌++◌, take, length, get_or, subst, sym}
use Rattle.std.proofs.lemmas.List.{take_more}
use Rattle.desk.specs.declared.entries.Entry.TheVariants.{Free}
use Rattle.workers.specs.Replacing.{WasLeft, FreesSome}
use Rattle.workers.proofs.Replacements.{some_more, some_and_one, left_unless}
use Rattle.workers.proofs.reclaimer.reclaim_all.Goals as goal

pub loop-serial-preserved-in_default : goal.loop-serial-preserved-in_default
loop-serial-preserved-in_default g c =
    let was = c.loop-serial.invariant in
    let at = c.loop-serial.serial-index in
    let below : c.loop-serial.serial-index < length c.args.serials.now = search rules in
    let kept : WasLeft (get_or c.args.serials.now at 0) = left_unless _ _ _ _ c.in_default.is c.in_ok-receipt.ensures.left in (
      subst (λ ss. FreesSome ss c.args.freed.now.items c.loop-serial.freed.items) (sym (take_more c.args.serials.now at 0 below))
          (some_more (take at c.args.serials.now) (get_or c.args.serials.now at 0) c.args.freed.now.items c.loop-serial.freed.items kept was.0),
      search rules,
    )

pub loop-serial-preserved : goal.loop-serial-preserved
loop-serial-preserved g c =
    let was = c.loop-serial.invariant in
    let at = c.loop-serial.serial-index in
    let below : c.loop-serial.serial-index < length c.args.serials.now = search rules in
    let grown : c.push.new.self.items ≡ c.loop-serial.freed.items ++ c.in-Some.receipt ∷ [] = search rules in
    let one : c.in-Some.receipt.entry ≡ Free (get_or c.args.serials.now c.loop-serial.serial-index 0) = search rules in (
      subst (λ rs. FreesSome (take (at + 1) c.args.serials.now) c.args.freed.now.items rs) (sym grown)
          (subst (λ ss. FreesSome ss c.args.freed.now.items (c.loop-serial.freed.items ++ c.in-Some.receipt ∷ [])) (sym (take_more c.args.serials.now at 0 below))
          (some_and_one (take at c.args.serials.now) (get_or c.args.serials.now at 0) c.args.freed.now.items c.loop-serial.freed.items c.in-Some.receipt was.0 one)),
      search rules,
    )
