use Rattle.std.proofs.Common.{◌≡◌, ◌≤◌, ◌<◌, ◌++◌, ◌∷◌, ◌∙◌, [], true, false, length, ap, arith, sym, subst, refl, rules}
use Rattle.std.specs.Prelude.{◌&&◌}
use Rattle.operations.specs.declared.Request.{Request}
use Rattle.operations.specs.Requests.{are_targets, has_targets}
use Rattle.operations.specs.declared.queue.Waiting.{Waiting}
use Rattle.desk.specs.declared.entries.Carried.{Carried}
use Rattle.desk.specs.declared.entries.Entry.TheVariants as entry
use Rattle.desk.specs.Fields.{IsCarried, AreCarried}
use Rattle.desk.specs.JobsFit.{jobs_fit}
use Rattle.desk.proofs.Distinct.{targets_distinct, few_steps}
use Rattle.desk.proofs.JobsLeft.{fitting}
use Rattle.desk.specs.Machine.{targets_of}
use Rattle.desk.specs.Spans.{silent}
use Rattle.desk.proofs.Keeping.{ask_keeps, carried_push}
use Rattle.desk.proofs.RoomKept.{same_room}
use Rattle.desk.proofs.Pending.{later_stays}
use Rattle.desk.proofs.RoomSteps.{ask_has_room}
use Rattle.desk.proofs.desk.Desk.submit.Goals as goal
use Rattle.desk.proofs.desk.Desk.submit.Goals.{then-are_targets, else-are_targets}

pub invariant_of-self-2 : goal.invariant_of-self-2
invariant_of-self-2 g c =
    let i = c.self.inside in let m = c.self.invariant in let targets = c.in-Ok.targets in
    let request : c.seen_as_ask-seen.result.1 ≡ c.args.request = c.seen_as_ask-seen.ensures.1 in
    let seen : c.seen_as_ask-seen.result.0.value ≡ entry.Ask i.next_number c.args.request = c.seen_as_ask-seen.ensures.0 in
    let enough : length (targets_of c.args.request) ≤ targets = omega (arith, c.in-Ok.ensures.targets.0) in
    let low : 0 < i.next_number = (let n = m.replies.count in omega arith) in
    let fit : jobs_fit g.J.HandshakeOp.whom g.J.HandshakeOp.asks c.args.request c.args.jobs.items ≡ true = search rules in
    let waits = c.in_default-wait_for_its_turn.ensures.ok in
    let w : Waiting (Carried g.row.J.Denot) = record { number = i.next_number; request = c.args.request; load = record { room = waits.0; jobs = c.args.jobs } } in
    let carried : IsCarried g.J.HandshakeOp.whom w = record { number = low; room = (let wide = waits.1 in omega (arith, enough, wide)); distinct = targets_distinct c.args.request (search rules); jobs = fitting g.J.HandshakeOp.whom g.J.HandshakeOp.asks c.args.request c.args.jobs.items fit } in
    let pushed : c.wait_for_its_turn.new.queue ≡ i.queue ++ w ∷ [] = waits.2 ∙ ap (λ (r : Request). i.queue ++ record { number = i.next_number; request = r; load = w.load } ∷ []) request in
    let entered : c.enter_ask.new.self.book.history ≡ i.log.book.history ++ entry.Ask i.next_number c.args.request ∷ [] = search rules in
    let k = ask_keeps c.enter_ask.new.self.book c.wait_for_its_turn.new.queue w m.kept refl pushed entered (search rules) in
    record {
      kept = k;
      carried = subst (AreCarried g.J.HandshakeOp.whom) (sym pushed) (carried_push g.J.HandshakeOp.whom i.queue w m.carried carried);
      few = m.few;
      capacity = m.capacity;
      places = m.places;
      named = m.named;
      replies = same_room (ask_has_room c.wait_for_its_turn.new.queue w c.enter_ask.new.self.lists (silent targets) m pushed refl enough (search rules)) refl (search rules);
      pending = later_stays (entry.Ask i.next_number c.args.request ∷ []) m.kept k refl refl (search rules) (search rules) m.pending;
    }

pub keep_request-requires : goal.keep_request-requires
keep_request-requires g c = record { steps = few_steps c.args.request (search rules) }

pub returns-in-Some-clause-err : goal.returns-in-Some-clause-err
returns-in-Some-clause-err g c =
    let fits = jobs_fit g.J.HandshakeOp.whom g.J.HandshakeOp.asks c.args.request c.args.jobs.items in
    let some : has_targets c.args.request ≡ c.has_targets.result = search rules in
    let good : (are_targets c.args.request && fits) ≡ c.if-are_targets.good =
    elim c.if-are_targets.branch [
      | then-are_targets w ↦ (let are : are_targets c.args.request ≡ true = search rules in let same : fits ≡ c.if-are_targets.good = search rules in ap (λ x. x && fits) are ∙ same)
      | else-are_targets w ↦ (let are : are_targets c.args.request ≡ false = search rules in let same : false ≡ c.if-are_targets.good = search rules in ap (λ x. x && fits) are ∙ same)
    ] in
    (refl, c.in-Some.ensures.some c.args.request fits c.args.self.now.book some good)
