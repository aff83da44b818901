use Rattle.std.proofs.Common.{List, sym, subst}
use Rattle.desk.specs.declared.entries.Live.{Live}
use Rattle.desk.specs.Machine.{names_of}
use Rattle.desk.specs.Rising.{AreRising}
use Rattle.desk.proofs.LiveNames.{kept_rise}
use Rattle.desk.proofs.desk.Desk.live_after.Goals as goal

pub live_after-requires : goal.live_after-requires
live_after-requires g c = record { rising = subst (λ (ls : List Live). AreRising 0 (names_of ls)) (sym c.as_slice.ensures.value) (kept_rise c.self.invariant.kept) }
