use Rattle.std.proofs.Common.{◌≡◌, ◌∙◌, sym, true, refl, rules}
use Rattle.std.specs.Prelude.{nat_lt}
use Rattle.method_table.specs.Numbers.{last_number}
use Rattle.system.proofs.Requesting.{asked_does, not_queued, would_queue}
use Rattle.system.proofs.keeping.Core.ask.Goals as goal

pub returns-in-Some-clause-does : goal.returns-in-Some-clause-does
returns-in-Some-clause-does c =
    let room : nat_lt c.args.self.now.requests.numbers last_number ≡ true = search rules in
    rw c.in-Err.ensures.unchanged (not_queued c.args.self.now c.args.request c.in-Err.unqueued.fault c.in-Some.refusal room c.in-Err.ensures.refused (sym c.refusal_of.ensures ∙ c.in-Some.is))

pub returns-clause-no_memory : goal.returns-clause-no_memory
returns-clause-no_memory c =
    let room : nat_lt c.args.self.now.requests.numbers last_number ≡ true = search rules in
    would_queue c.args.self.now c.args.request c.in-Err.unqueued.fault room c.in-Err.ensures.refused (sym c.refusal_of.ensures ∙ c.in-None.is)

pub returns-in-Ok-clause-does : goal.returns-in-Ok-clause-does
returns-in-Ok-clause-does c =
    let room : nat_lt c.args.self.now.requests.numbers last_number ≡ true = search rules in
    asked_does c.args.self.now _ c.args.request room c.in-Ok.ensures.accepted (record { table = refl; places = refl; records = refl; index = refl; names = refl; moment_is = refl }) refl c.in-Ok.ensures.ok refl
