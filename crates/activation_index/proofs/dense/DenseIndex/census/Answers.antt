use Rattle.std.proofs.Common.{rules}
use Rattle.std.proofs.lemmas.List.Sorted.{IsNonDecreasingBy-from_sort_by_key}
use Rattle.activation_index.proofs.Pairs.{census_rising}
use Rattle.activation_index.proofs.dense.DenseIndex.census.Goals as goal

pub returns-clause-sorted : goal.returns-clause-sorted
returns-clause-sorted c = IsNonDecreasingBy-from_sort_by_key (λ pair. pair.0) _ c.sort_unstable_by_key.ensures.sorted (λ a r q k. search rules)

pub returns-clause-rising : goal.returns-clause-rising
returns-clause-rising c = λ few.
    let moved = rw (c.in_ok-census.ensures, c.deref.ensures.value) at c.sort_unstable_by_key.ensures.permutation in
    let sorted = IsNonDecreasingBy-from_sort_by_key (λ pair. pair.0) _ c.sort_unstable_by_key.ensures.sorted (λ a r q k. search rules) in
    census_rising c.self.inside.cells.items c.sort_unstable_by_key.new.self.items moved sorted (rw (← c.self.view_is) at few)
