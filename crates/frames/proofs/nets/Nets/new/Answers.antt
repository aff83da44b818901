use Rattle.std.proofs.Common.{ap, List, [], false, arith}
use Rattle.frames.specs.declared.Change.{Change}
use Rattle.frames.specs.Nets.{NetsView}
use Rattle.frames.proofs.Cells.{none_kept, none_touched, among_rest, list_all}
use Rattle.frames.proofs.nets.Nets.new.Goals as goal

pub invariant_of-result : goal.invariant_of-result
invariant_of-result c =
    let places = c.in_ok-with_capacity.ensures.capacity in
    let room = c.in_ok-with_capacity-2.ensures.capacity in
    let cells = c.in_ok-no_codes.field-0.items in
    rw (c.in_ok-with_capacity.ensures.items, c.in_ok-with_capacity-2.ensures.items) (none_kept cells [] _ _ c.in_ok-no_codes.ensures.cells (none_touched cells c.in_ok-no_codes.ensures.none) (among_rest cells [] c.in_ok-no_codes.ensures.cells c.in_ok-no_codes.ensures.none) (omega arith) (omega arith))

pub returns : goal.returns
returns c =
    let view : List Change → NetsView = λ entries. record { entries = entries; flushed = false } in
    let cells = c.in_ok-no_codes.field-0.items in
    rw c.in_ok-with_capacity-2.ensures.items (ap view (list_all cells [] c.in_ok-no_codes.ensures.cells (among_rest cells [] c.in_ok-no_codes.ensures.cells c.in_ok-no_codes.ensures.none)))
