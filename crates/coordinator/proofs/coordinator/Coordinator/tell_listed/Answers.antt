use Rattle.std.proofs.Common.{rules, ◌≡◌, true, false, length, sym, ap, subst, ◌∙◌}
use Rattle.thread_state.specs.declared.poll_rule.Arming.{Arming}
use Rattle.desk.specs.Fields.{DeskSeen, at}
use Rattle.stopped_threads.specs.Holding.{Holding}
use Rattle.coordinator_core.specs.Telling.{due_in, IsAllTold, AreArmed}
use Rattle.coordinator_core.proofs.Tellings.{all_told}
use Rattle.coordinator.proofs.coordinator.Coordinator.tell_listed.Goals as goal

pub of-requires : goal.of-requires
of-requires g c =
    let old = c.args.self.now.armer in let new = c.tell_each-is_told.new.self.armer in
    let no_more : c.args.listed.has_more ≡ false = search rules in
    let listing = c.requires.listed no_more in
    let s = at c.args.listed.seen in
    let told : c.tell_each-is_told.result ≡ true = search rules in
    let kept : c.self.inside.armer.seen ≡ new = ap (λ (h : Holding). h.armer) c.self.view_is in
    let places_now : length new.armed ≡ length c.self.inside.armer.seen.armed = sym (ap (λ (a : Arming). length a.armed) kept) in
    let long : length new.armed ≡ length old.armed = search rules in
    let armed = subst (AreArmed new) (c.parts-seen.ensures.list ∙ listing.1) (c.tell_each-is_told.ensures.told told) in
    let all : IsAllTold s new = (listing.0, all_told s listing.0 old new (due_in s) long c.tell_each-is_told.ensures.arms listing.2 armed) in
    record {
      told = subst (λ (d : DeskSeen). IsAllTold (at d) c.self.inside.armer.seen) (sym c.parts-seen.ensures.seen) (subst (IsAllTold s) (sym kept) all);
    }
