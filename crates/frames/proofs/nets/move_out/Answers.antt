use Rattle.frames.proofs.Cells.{none_rest, none_touched, among_rest, nets_touched}
use Rattle.frames.proofs.nets.move_out.Goals as goal

pub returns-then-some_rest-clause-touched : goal.returns-then-some_rest-clause-touched
returns-then-some_rest-clause-touched c = rw c.clear.ensures.items (none_touched c.drain.new.cells.items c.drain.ensures.none)

pub returns-then-some_rest-clause-rest : goal.returns-then-some_rest-clause-rest
returns-then-some_rest-clause-rest c = among_rest c.drain.new.cells.items c.drain.new.list.items c.drain.ensures.cells c.drain.ensures.none

pub unload_all-requires-clause-nets : goal.unload_all-requires-clause-nets
unload_all-requires-clause-nets c =
    rw c.deref-3.ensures.value (nets_touched c.args.cells.now.items c.args.list.now.items c.args.touched.now.items c.requires.cells c.requires.touched)

pub returns-clause-rest : goal.returns-clause-rest
returns-clause-rest c = none_rest c.unload_all.new.cells.items c.unload_all.ensures.none
