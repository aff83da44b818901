use Rattle.std.proofs.Common.{rules, tests}
use Rattle.std.proofs.lemmas.Iterator.{items_from_collect, YieldsList-from_slice}
use Rattle.std.proofs.lemmas.Iterator.Consumers.{YieldsList-from_filter_map}
use Rattle.activation_index.specs.Cells.{pair_of}
use Rattle.activation_index.proofs.dense.counted_cells.Goals as goal

pub returns : goal.returns
returns c = items_from_collect _ c.collect.ensures.ran (YieldsList-from_filter_map _ pair_of (YieldsList-from_slice c.args.cells.now cc) c.filter_map.ensures.closure (λ x r q k. search (rules, tests)))
