use Rattle.std.proofs.Common.{ℕ, Option, None, Some, subst, refl}
use Rattle.std.specs.Prelude.{IfSome}
use Rattle.desk.specs.Fields.{DeskSeen, LooksAtAll}
use Rattle.stopped_threads.specs.declared.faults.Reclaimed.{Reclaimed}
use Rattle.stopped_threads.specs.Reclaiming.{IsReclaimed, IsReclaimedFrom, Frees}
use Rattle.stopped_threads.proofs.weighing.weigh.Goals as goal

-- what became of the code where all places had just been looked at, from this desk
from_desk : {N : Type 0} (places serial : ℕ) (before looked after : DeskSeen) → LooksAtAll serial places before looked → (r : Option (Reclaimed N)) → IfSome r (Frees places serial looked after)
    → IfSome r (IsReclaimedFrom before places serial)
from_desk places serial before looked after looks None h = tt
from_desk places serial before looked after looks (Some said) h = (record { before = before; looked = looked; after = after; looks = looks; frees = h }, refl)

-- what became of the code, whatever desk it began at
from_some : {N : Type 0} (places serial : ℕ) (before : DeskSeen) (r : Option (Reclaimed N)) → IfSome r (IsReclaimedFrom before places serial) → IfSome r (IsReclaimed places serial)
from_some places serial before None h = tt
from_some places serial before (Some said) h = h.0

pub returns : goal.returns
returns g c =
    let before = c.args.desk.now in let looked = c.look_at_all.new.self in
    let whole = subst (λ n. LooksAtAll c.args.serial n before looked) c.requires.places c.in-Ok.ensures.looks in
    let places = g.N.Name.board.places in
    let from = from_desk places c.args.serial before looked _ whole c.weigh_and_free.result c.weigh_and_free.ensures in
    record { reclaimed = from_some places c.args.serial before c.weigh_and_free.result from; from = from }
