use Rattle.std.proofs.Common.{rules, ◌≡◌, ◌<◌, ◌&&◌, ◌++◌, true, false, [], ◌∷◌, length, map, take, get_or, sym, ap, subst, ◌∙◌}
use Rattle.std.proofs.Math.Seq.{map-set_same}
use Rattle.std.proofs.lemmas.List.{take_more, length-map}
use Rattle.std.proofs.Math.ListN.{get_or-map}
use Rattle.coordinator_core.specs.Telling.{AreArmed}
use Rattle.coordinator_core.specs.declared.listing.PendingOp.{PendingOp}
use Rattle.coordinator_core.specs.declared.listing.PendingJob.{PendingJob}
use Rattle.coordinator_core.proofs.Arms.{arms_then}
use Rattle.coordinator_core.proofs.Tellings.{armed_on, armed_more, and_left, and_right}
use Rattle.coordinator.proofs.coordinator.Coordinator.tell_each.Goals as goal
use Rattle.coordinator.proofs.coordinator.Coordinator.tell_each.Goals.{then-tell_at, else-tell_at}

pub loop-at-preserved : goal.loop-at-preserved
loop-at-preserved g c =
    let l = c.loop-at in let i = c.loop-at.at in let new = c.tell_at.new.self.armer in
    let f : PendingJob g.row.J.Denot → PendingOp = λ u. u.what in
    let ts = map f c.args.list.now.items in
    let one = c.index_mut.result.now in
    let arms = arms_then c.args.self.now.armer l.self.armer new l.invariant.2 c.tell_at.ensures.arms in
    let here : get_or l.list.items i one ≡ one = search rules in
    let stays : f c.tell_at.new.untold ≡ f (get_or l.list.items i one) = c.tell_at.ensures.listed ∙ sym (ap f here) in
    let within : i < length l.list.items = search rules in
    let below : i < length ts = subst (λ n. i < n) (sym (length-map l.list.items f) ∙ ap length l.invariant.3) within in
    let listed : get_or ts i (f one) ≡ f one =
    sym (ap (λ xs. get_or xs i (f one)) l.invariant.3) ∙ get_or-map f l.list.items i one ∙ ap f here in
    let both : c.if-tell_at.is_told ≡ (c.tell_at.result && l.is_told) = elim c.if-tell_at.branch [
      | then-tell_at w ↦ (let told : c.tell_at.result ≡ true = search rules in let now : c.if-tell_at.is_told ≡ l.is_told = search rules in now ∙ sym (ap (λ b. b && l.is_told) told))
      | else-tell_at w ↦ (let told : c.tell_at.result ≡ false = search rules in let now : c.if-tell_at.is_told ≡ false = search rules in now ∙ sym (ap (λ b. b && l.is_told) told))
    ] in (
      search rules,
      search rules,
      arms,
      map-set_same f l.list.items i c.tell_at.new.untold one stays ∙ l.invariant.3,
      λ is.
          let all = sym both ∙ is in
          let was = armed_on l.self.armer new (take i ts) c.tell_at.ensures.arms (l.invariant.4 (and_right c.tell_at.result l.is_told all)) in
          let low = c.tell_at.ensures.told (and_left c.tell_at.result l.is_told all) in
          subst (λ xs. AreArmed new xs) (sym (take_more ts i (f one) below ∙ ap (λ t. take i ts ++ t ∷ []) listed))
          (armed_more new (take i ts) (f one) was low),
    )
