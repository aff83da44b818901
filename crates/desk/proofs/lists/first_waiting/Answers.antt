use Rattle.std.proofs.Common.{◌≡◌, List, Some, None, sym, rules}
use Rattle.std.specs.Prelude.{slice_get}
use Rattle.operations.specs.declared.queue.Waiting.{Waiting}
use Rattle.desk.specs.declared.entries.Carried.{Carried}
use Rattle.desk.proofs.Pending.{first_at, first_none}
use Rattle.desk.proofs.lists.first_waiting.Goals as goal

pub returns-in-Some : goal.returns-in-Some
returns-in-Some g c =
    let q : List (Waiting (Carried g.row.J.Denot)) = c.args.queue.now in
    let here : slice_get q 0 ≡ Some c.in-Some.first.now = search rules in
    sym (first_at c.args.next q c.in-Some.first.now here)

pub returns-in-None : goal.returns-in-None
returns-in-None g c =
    let q : List (Waiting (Carried g.row.J.Denot)) = c.args.queue.now in
    let none : slice_get q 0 ≡ None = search rules in
    sym (first_none c.args.next q none)
