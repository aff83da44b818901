use Rattle.std.proofs.Common.{◌≡◌, ◌++◌, ◌-◌, ◌+◌, length, map, take, vec_len, vec_capacity}
use Rattle.operations.specs.declared.Kind.TheVariants as kind
use Rattle.desk.specs.Fields.{at}
use Rattle.coordinator_core.specs.Telling.{tellings, AreAskedAlone}
use Rattle.coordinator_core.proofs.listing.list_alone.Given as goal

abbrev pub invariant-loop-who : goal.invariant-loop-who
invariant-loop-who g l =
    (map (λ u. u.what) l.list.items ++ take (vec_capacity l.list - vec_len l.list) (tellings (at l.fn.desk) kind.Handshake l.armer.seen l.rest)
    ≡ map (λ u. u.what) l.fn.list.items ++ take (vec_capacity l.fn.list - vec_len l.fn.list) (tellings (at l.fn.desk) kind.Handshake l.armer.seen l.fn.due))
    × (length (tellings (at l.fn.desk) kind.Handshake l.armer.seen l.rest) + vec_len l.list
    ≡ length (tellings (at l.fn.desk) kind.Handshake l.armer.seen l.fn.due) + vec_len l.fn.list)
    × AreAskedAlone (at l.fn.desk) l.number l.rest
    × (vec_capacity l.list ≡ vec_capacity l.fn.list)
    × (l.desk.book ≡ l.fn.desk.book) × (l.desk.keeper ≡ l.fn.desk.keeper)
    × (l.desk.slots ≡ l.fn.desk.slots) × (l.desk.methods ≡ l.fn.desk.methods)

abbrev pub decreases-loop-who : goal.decreases-loop-who
decreases-loop-who g l = length l.rest
