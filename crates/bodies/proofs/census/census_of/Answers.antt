use Rattle.std.proofs.Common.{◌≡◌, ℕ, ap, arith}
use Rattle.activation_index.specs.Counts.{count_in, IndexView}
use Rattle.bodies.proofs.Pairs.{is_census}
use Rattle.bodies.proofs.census.census_of.Goals as goal

pub returns : goal.returns
returns g c =
    let none : (serial : ℕ) → count_in c.in_ok-index.index.entries serial ≡ 0 = λ serial. ap (λ (v : IndexView). count_in v.entries serial) c.in_ok-index.ensures.empty in
    is_census c.args.bodies.now c.count_bodies.new.index.entries c.in_ok-list.list.items c.in_ok-list.ensures.census c.in_ok-list.ensures.rising
    (λ serial. (let a = c.count_bodies.ensures.counts serial in let b = none serial in omega arith))
