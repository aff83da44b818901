use Rattle.std.proofs.Common.{◌≡◌, ◌∙◌, sym, ap, refl, arith, Some}
use Rattle.std.specs.Prelude.{slice_set}
use Rattle.method_table.specs.Codes.{unfreed}
use Rattle.system.specs.declared.records.Record.{Record}
use Rattle.system.proofs.ReclaimEvents.{left}
use Rattle.system.proofs.keeping.Core.invalidate.Goals as goal

pub returns-in-Ok : goal.returns-in-Ok
returns-in-Ok c =
    let found : unfreed c.args.self.now.table.codes c.args.serial ≡ Some c.in-Some.code = sym c.find.ensures.value ∙ c.in-Some.is in
    let low = c.find.ensures.sound.in_slots c.args.serial c.in-Some.code found in
    left c.args.self.now _ c.args.serial c.in-Some.code found c.in-Ok.ensures.accepted c.requires.few (omega arith)
    (record { table = c.in-Ok.ensures.codes; places = refl; names = refl; moment_is = refl; requests = refl })
    (ap (λ (r : Record). slice_set c.args.self.now.records.items c.in-Some.code.slot r) c.of.ensures) refl
