use Rattle.std.proofs.Common.{◌≡◌, ◌∙◌, sym, subst, true, false, refl}
use Rattle.system.specs.declared.events.Event.TheVariants as event
use Rattle.system.specs.declared.answers.Answer.TheVariants as answer
use Rattle.system.specs.declared.answers.Refusal.TheVariants as refusal
use Rattle.system.specs.Kept.Opening.{may_open_now}
use Rattle.system.specs.Stands.{Does}
use Rattle.system.proofs.Requesting.{already_open, queue_empty, opened_does}
use Rattle.system.proofs.keeping.Core.open_next.Goals as goal

pub returns-then-not-may_open : goal.returns-then-not-may_open
returns-then-not-may_open c =
    let no : may_open_now c.args.self.now.requests.opens c.args.self.now.requests.waiting ≡ false = sym c.may_open.ensures ∙ c.if-not-may_open.true in
    already_open c.args.self.now no

pub returns-in_default : goal.returns-in_default
returns-in_default c =
    let may : may_open_now c.args.self.now.requests.opens c.args.self.now.requests.waiting ≡ true = sym c.may_open.ensures ∙ c.if-not-may_open.false in
    let none = c.in_default.ensures.none in
    subst (λ waiting. Does event.Open c.args.self.now (answer.Refused refusal.QueueEmpty) (record c.args.self.now { requests = record c.args.self.now.requests { waiting = waiting } }))
    (none.0 ∙ sym none.1) (queue_empty c.args.self.now may none.0)

pub returns : goal.returns
returns c =
    let may : may_open_now c.args.self.now.requests.opens c.args.self.now.requests.waiting ≡ true = sym c.may_open.ensures ∙ c.if-not-may_open.false in
    rw c.kind-kind.ensures (opened_does c.args.self.now _ c.in-Some.oldest c.pop.new.self may c.in-Some.ensures.oldest (record { table = refl; places = refl; records = refl; index = refl; names = refl; moment_is = refl }) refl refl c.push.ensures)
