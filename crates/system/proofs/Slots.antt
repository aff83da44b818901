-- Each unfreed code has its own slot.
use Rattle.std.proofs.Common.{◌≡◌, ◌≢◌, ◌∙◌, ◌+◌, sym, ap, refl, ℕ, true, eqb, Some}
use Rattle.method_table.specs.declared.Code.{Code}
use Rattle.method_table.specs.declared.CodeState.{CodeState}
use Rattle.method_table.specs.declared.CodeState.TheVariants.{InUse, NotEntrant, Zombie, Freed}
use Rattle.method_table.specs.Codes.{code_of, takes_slot}
use Rattle.system.specs.World.{World}
use Rattle.system.specs.Facts.{may_stand, IsSound}
use Rattle.system.proofs.Lists.{find_place}
use Rattle.system.proofs.Table.{code_serial}

pub takes : (state : CodeState) → may_stand state ≡ true → takes_slot state ≡ true
takes InUse h = refl
takes NotEntrant h = refl
takes Zombie h = refl
takes Freed h = cc

-- codes of two serials have two slots
pub two_slots : (w : World) → IsSound w → (a b : ℕ) (x y : Code) → code_of w.codes a ≡ Some x → code_of w.codes b ≡ Some y → takes_slot x.state ≡ true → takes_slot y.state ≡ true → a ≢ b → x.slot ≢ y.slot
two_slots w sound a b x y found there u v differ same =
    let i = find_place (λ (c : Code). eqb c.serial a) w.codes x found in
    let j = find_place (λ (c : Code). eqb c.serial b) w.codes y there in
    let places : i.0 ≡ j.0 = sound.table.one_in_slot i.0 j.0 x y i.1 j.1 u v same in
    differ (sym (code_serial w.codes a x found) ∙ (sound.table.serial_is i.0 x i.1 ∙ (ap (λ n. n + 1) places ∙ (sym (sound.table.serial_is j.0 y j.1) ∙ code_serial w.codes b y there))))
