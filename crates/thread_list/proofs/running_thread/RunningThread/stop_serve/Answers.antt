use Rattle.std.proofs.Common.{◌∙◌, ℕ, Some, ap, subst, sym, rules}
use Rattle.berths.specs.Berths.{Moved}
use Rattle.desk.specs.Fields.{at}
use Rattle.thread_list.specs.BodyStates.{IsAnswer, last_of, given_in}
use Rattle.thread_list.proofs.Answering.{ready_of, answer_of, entry_of, refused_of, restored}
use Rattle.desk.specs.Machine.{Stands}
use Rattle.desk.specs.declared.entries.Entry.{Entry}
use Rattle.operations.specs.Asks.{reply}
use Rattle.thread_list.specs.Moves.{IsOf, Running}
use Rattle.thread_list.proofs.running_thread.RunningThread.stop_serve.Goals as goal

pub finish-requires-clause-name : goal.finish-requires-clause-name
finish-requires-clause-name g c = let s = c.in-Some.ensures.some in (answer_of _ _ _ c.in-Some.body c.in-Some.done c.self.invariant.answered s.1 s.2).0

pub finish-requires-clause-settled : goal.finish-requires-clause-settled
finish-requires-clause-settled g c = let s = c.in-Some.ensures.some in ready_of _ _ c.in-Some.back c.in-Some.body c.self.invariant.ready s.0 s.1

pub finish-requires-clause-reply : goal.finish-requires-clause-reply
finish-requires-clause-reply g c = let s = c.in-Some.ensures.some in (answer_of _ _ _ c.in-Some.body c.in-Some.done c.self.invariant.answered s.1 s.2).2

pub returns-in-Ok-clause-ends : goal.returns-in-Ok-clause-ends
returns-in-Ok-clause-ends g c =
    let s = c.in-Some.ensures.some in let i = c.self.invariant in
    let crossed = last_of (given_in c.self.inside.body_state) c.self.inside.crossed in
    let is = answer_of _ crossed _ c.in-Some.body c.in-Some.done i.answered s.1 s.2 in
    let entered = entry_of c.self.inside.name c.self.inside.place _ c.in-Some.body crossed c.in-Some.done _ i.own s.1 is (ap (λ (r : Stands). r.entry) c.in-Ok.ensures.ok.receipt_is) in (
      c.in-Some.back,
      c.in-Some.body,
      c.clear.new.self,
      c.poll-found.result,
      record { number = c.in-Some.done.op; ask = c.in-Some.done.ask },
      search rules,
      search rules,
      sym (ap (λ (v : Running). v.crossed.act) c.self.view_is) ∙ is.3,
      entered ∙ ap (λ n. Entry.Finish c.in-Some.done.op n (reply c.in-Some.done.ask c.in-Some.body.image.frames)) (ap (λ (v : Running). v.name) c.self.view_is),
      search rules,
      search rules,
      search rules,
    )

pub returns-in-Err-clause-not_entered : goal.returns-in-Err-clause-not_entered
returns-in-Err-clause-not_entered g c =
    let s = c.in-Some.ensures.some in let i = c.self.invariant in
    let v = c.self.view_is in let body = c.in-Some.body in let done = c.in-Some.done in let place = c.self.inside.place in
    let crossed = last_of (given_in c.self.inside.body_state) c.self.inside.crossed in
    let is = answer_of _ crossed _ body done i.answered s.1 s.2 in
    let own : IsOf c.self.inside.name place (Some body) = subst (IsOf c.self.inside.name place) s.1 i.own in
    refused_of (at c.args.desk.now) c.args.self.now place body done
    (subst (λ (n : ℕ). IsOf n place (Some body)) (ap (λ (r : Running). r.name) v) own)
    (subst (λ (m : Moved). IsAnswer body m done) (ap (λ (r : Running). r.crossed) v) is)
    (sym (ap (λ (r : Running). r.body) v) ∙ s.1) c.in-Err.ensures.err.1

pub invariant_of-self-in-Err : goal.invariant_of-self-in-Err
invariant_of-self-in-Err g c =
    let s = c.in-Some.ensures.some in
    restored _ _ _ c.in-Some.back _ _ _ _ _ _ _ c.in-Some.body c.in-Some.done _ c.self.invariant s.0 s.1 s.2 s.3 (search rules)
