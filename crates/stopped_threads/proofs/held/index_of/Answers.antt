use Rattle.std.proofs.Common.{◌≤◌, rules, arith, length}
use Rattle.std.proofs.lemmas.Option.{slice_get_within}
use Rattle.stopped_threads.proofs.Apart.{none_there}
use Rattle.stopped_threads.proofs.held.index_of.Goals as goal

pub returns-clause-none : goal.returns-clause-none
returns-clause-none g c = let l = c.loop-index in let bs = c.args.bodies.now in
    none_there c.args.place bs (λ k b h. (let low = slice_get_within bs k b h in let all : length bs ≤ l.index = search rules in l.invariant k b (omega arith) h))
