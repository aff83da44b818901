use Rattle.std.proofs.Common.{refl}
use Rattle.method_table.specs.declared.table.InstallFault.TheVariants as fault
use Rattle.system.specs.declared.answers.Refusal.TheVariants as refusal
use Rattle.system.proofs.CodeEvents.{no_install, free_for, free_within}
use Rattle.system.proofs.Replacing.{installed, replaced_low}
use Rattle.system.proofs.keeping.Core.install.Goals as goal

pub returns-in-Ok-clause-does : goal.returns-in-Ok-clause-does
returns-in-Ok-clause-does c =
    installed c.args.self.now _ c.args.method c.in-Ok.installed.code.slot c.in-Ok.installed.code.serial c.in-Ok.ensures.accepted c.in-Ok.ensures.slot c.in-Ok.ensures.serial c.place.ensures c.in-Ok.installed.replaced c.in-Ok.ensures.replaced c.requires.few
    (record { table = c.in-Ok.ensures.codes; places = refl; names = refl; moment_is = refl; requests = refl }) c.note_replaced.ensures.some c.note_replaced.ensures.none

pub returns-in-Err-NoSuchMethod-clause-does : goal.returns-in-Err-NoSuchMethod-clause-does
returns-in-Err-NoSuchMethod-clause-does c =
    rw c.in-Err-NoSuchMethod.ensures.unchanged (no_install c.args.self.now c.args.method fault.NoSuchMethod refusal.NoSuchMethod (rw c.in-Err-NoSuchMethod.field-0-is at c.in-Err-NoSuchMethod.ensures.refused) refl)

pub returns-in-Err-TableFull-clause-does : goal.returns-in-Err-TableFull-clause-does
returns-in-Err-TableFull-clause-does c =
    rw c.in-Err-TableFull.ensures.unchanged (no_install c.args.self.now c.args.method fault.TableFull refusal.TableFull (rw c.in-Err-TableFull.field-0-is at c.in-Err-TableFull.ensures.refused) refl)

pub returns-in-Err-SerialsSpent-clause-does : goal.returns-in-Err-SerialsSpent-clause-does
returns-in-Err-SerialsSpent-clause-does c =
    rw c.in-Err-SerialsSpent.ensures.unchanged (no_install c.args.self.now c.args.method fault.SerialsSpent refusal.SerialsSpent (rw c.in-Err-SerialsSpent.field-0-is at c.in-Err-SerialsSpent.ensures.refused) refl)

pub place-requires-clause-slot : goal.place-requires-clause-slot
place-requires-clause-slot c = free_within c.args.self.now c.requires.world.0 c.in-Ok.installed.code.slot c.requires.world.2 c.in-Ok.ensures.slot

pub place-requires-clause-free : goal.place-requires-clause-free
place-requires-clause-free c = free_for c.args.self.now c.requires.world.0 c.in-Ok.installed.code.slot c.in-Ok.installed.code.serial c.requires.world.2 c.in-Ok.ensures.slot c.in-Ok.ensures.serial

pub note_replaced-requires : goal.note_replaced-requires
note_replaced-requires c = replaced_low c.args.self.now c.requires.world.0 c.requires.world.1 c.requires.world.2 c.args.method c.in-Ok.installed.replaced c.in-Ok.ensures.replaced
