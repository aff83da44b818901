use Rattle.std.proofs.Common.{◌≡◌, refl, rules, Some, sym, ap, ◌∙◌, ◌+◌, length, arith}
use Rattle.system.specs.World.{vacant_place}
use Rattle.system.proofs.Starts.{refused_open, refused_full, refused_spent, start_does, may_start, vacant_low}
use Rattle.system.proofs.Runs.{on_err}
use Rattle.system.proofs.keeping.Core.start.Goals as goal

pub returns-then-is_safepoint-clause-does : goal.returns-then-is_safepoint-clause-does
returns-then-is_safepoint-clause-does c = refused_open c.args.self.now (sym c.is_safepoint.ensures ∙ c.if-is_safepoint.true)

pub returns-in_default-clause-does : goal.returns-in_default-clause-does
returns-in_default-clause-does c = refused_full c.args.self.now (search rules) (search rules)

pub returns-then-self-ge-LAST-clause-does : goal.returns-then-self-ge-LAST-clause-does
returns-then-self-ge-LAST-clause-does c = refused_spent c.args.self.now c.in-Some.place (search rules) (search rules) (search rules)

pub index_mut-requires : goal.index_mut-requires
index_mut-requires c =
    let some : vacant_place c.args.self.now.places.items ≡ Some c.in-Some.place = ap vacant_place (sym c.deref.ensures.value) ∙ (sym c.vacant_place.ensures ∙ c.in-Some.is) in
    omega (arith, vacant_low c.args.self.now.places.items c.in-Some.place some, ap length c.deref.ensures.value, c.deref.ensures.len)

pub returns-clause-does : goal.returns-clause-does
returns-clause-does c =
    let some : vacant_place c.args.self.now.places.items ≡ Some c.in-Some.place = ap vacant_place (sym c.deref.ensures.value) ∙ (sym c.vacant_place.ensures ∙ c.in-Some.is) in
    start_does c.args.self.now _ c.in-Some.place (c.args.self.now.names + 1) c.in_ok-thread.thread (search rules) some (search rules) refl
    (record { table = refl; records = refl; index = refl; names = refl; moment = refl; requests = refl; places = refl; new_is = c.in_ok-thread.ensures })

pub returns-in_err-thread-clause-no_memory : goal.returns-in_err-thread-clause-no_memory
returns-in_err-thread-clause-no_memory c =
    let some : vacant_place c.args.self.now.places.items ≡ Some c.in-Some.place = ap vacant_place (sym c.deref.ensures.value) ∙ (sym c.vacant_place.ensures ∙ c.in-Some.is) in
    on_err c.from_residual.result (may_start c.args.self.now c.in-Some.place (search rules) some (search rules))
