use Rattle.std.proofs.Common.{rules, ◌≡◌, ◌≤◌, false, length, nat_lt, sym, ap, ◌∙◌}
use Rattle.desk.specs.Fields.{at}
use Rattle.coordinator_core.specs.Telling.{is_there}
use Rattle.coordinator_core.proofs.Tellings.{one_alone}
use Rattle.coordinator_core.proofs.listing.has_more.Goals as goal

pub returns-else-open_count-gt1 : goal.returns-else-open_count-gt1
returns-else-open_count-gt1 g c =
    let s = at c.args.desk.now in
    let few : length s.opened ≤ 1 = search rules in
    let one : nat_lt 1 c.open_count.result ≡ false = search rules in
    let none = one_alone s.next_name c.args.name c.requires.next.0 c.args.number s.opened few c.requires.next.1 in
    one ∙ sym (ap is_there none)
