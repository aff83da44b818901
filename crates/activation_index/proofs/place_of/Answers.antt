use Rattle.std.proofs.Common.{rules}
use Rattle.std.proofs.lemmas.List.Sorted.{IsPartitionPoint-from_clause}
use Rattle.activation_index.proofs.Places.{is_before, is_parted, point_is}
use Rattle.activation_index.proofs.place_of.Goals as goal

pub returns : goal.returns
returns c =
    let parted = is_parted c.args.entries.now 0 c.args.serial c.requires in
    let point = IsPartitionPoint-from_clause (is_before c.args.serial) _ _ c.partition_point.ensures.partitioned parted (λ a r f k. search rules) in
    point_is c.args.entries.now c.args.serial c.partition_point.result c.partition_point.ensures.bound point
