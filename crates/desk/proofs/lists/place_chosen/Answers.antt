use Rattle.std.proofs.Common.{◌≡◌, ◌<◌, ℕ, List, length, map, Option, Some, None, sym, subst, rules}
use Rattle.std.specs.Prelude.{IfSome, IfNone, slice_get}
use Rattle.desk.specs.declared.entries.Opened.{Opened}
use Rattle.desk.specs.Refusals.{chosen}
use Rattle.desk.specs.Fields.{current_of, IsIndex}
use Rattle.desk.proofs.OpenLists.{chosen_some, chosen_none, first_index, oldest_is}
use Rattle.desk.proofs.lists.place_chosen.Goals as goal

pub returns-in-Some-clause-some : goal.returns-in-Some-clause-some
returns-in-Some-clause-some g c =
    let os : List (Opened g.row.J.Denot) = c.args.opened.now in
    subst (λ (m : Option ℕ). IfSome c.index_of.result (λ i. (i < length os) × ((o : Opened g.row.J.Denot) → slice_get os i ≡ Some o → IsIndex o.number os (Some i) × (chosen m (map current_of os) ≡ Some (current_of o))))) (sym c.in-Some.is)
    (chosen_some c.in-Some.number os c.index_of.result c.index_of.ensures)

pub returns-in-Some-clause-none : goal.returns-in-Some-clause-none
returns-in-Some-clause-none g c =
    let os : List (Opened g.row.J.Denot) = c.args.opened.now in
    subst (λ (m : Option ℕ). IfNone c.index_of.result (chosen m (map current_of os) ≡ None)) (sym c.in-Some.is) (chosen_none c.in-Some.number os c.index_of.result c.index_of.ensures)

pub returns-in-None-2-clause-some : goal.returns-in-None-2-clause-some
returns-in-None-2-clause-some g c =
    let os : List (Opened g.row.J.Denot) = c.args.opened.now in
    let low : 0 < length os = search rules in
    (low, λ o here. (first_index os o here low, subst (λ (m : Option ℕ). chosen m (map current_of os) ≡ Some (current_of o)) (sym c.in-None-2.is) (oldest_is os o here)))
