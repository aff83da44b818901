use Rattle.std.proofs.Common.{List, sym, subst}
use Rattle.desk.specs.declared.entries.Live.{Live}
use Rattle.desk.specs.Machine.{names_of}
use Rattle.desk.specs.Rising.{AreRising}
use Rattle.desk.proofs.LiveNames.{kept_rise}
use Rattle.desk.proofs.desk.Desk.is_awaited.Goals as goal

pub is_due_name-requires : goal.is_due_name-requires
is_due_name-requires g c = record { rising = subst (λ (ls : List Live). AreRising 0 (names_of ls)) (sym c.as_slice-2.ensures.value) (kept_rise c.self.invariant.kept) }
