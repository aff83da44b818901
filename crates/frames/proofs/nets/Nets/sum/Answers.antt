use Rattle.std.proofs.Common.{◌≡◌, ◌≢◌, ◌≤◌, ◌++◌, ℕ, zero, suc, Bool, true, false, ◌∙◌, ap, subst, sym, refl, List, length, arith}
use Rattle.std.proofs.lemmas.Int.{ints}
use Rattle.std.proofs.lemmas.List.{take_rest}
use Rattle.frames.specs.declared.Change.{Change}
use Rattle.frames.specs.Nets.{settled}
use Rattle.frames.proofs.Totals.{sum_settled, small_drop}
use Rattle.frames.proofs.Cells.{flushed_is, small_both, sum_append}
use Rattle.frames.proofs.nets.Nets.sum.Goals as goal

-- from a place on: the list has all unless it is the first
within : (all list : List Change) (n : ℕ) → (n ≢ 0 → all ≡ list) → n ≤ length all → n ≤ length list
within all list zero h le = omega arith
within all list (suc n) h le = subst (λ xs. suc n ≤ length xs) (h (λ e. omega (arith, e))) le

first : (n : ℕ) (flushed : Bool) → (n ≢ 0 → flushed ≡ true) → flushed ≡ false → n ≡ 0
first zero flushed h open_ = refl
first (suc n) flushed h open_ = let no_way : true ≡ false = sym (h (λ e. omega (arith, e))) ∙ open_ in cc

pub slice_bounds-net_sum-count : goal.slice_bounds-net_sum-count
slice_bounds-net_sum-count c =
    let s = c.self.inside in
    let le = rw (← c.self.view_is) at c.requires.within in
    rw c.deref.ensures.value (within (settled (s.cells.items ++ s.list.items)) s.list.items c.args.from (λ ne. flushed_is s.cells.items s.list.items s.touched.items _ _ s.flushed c.self.invariant (ap (λ v. v.flushed) c.self.view_is ∙ c.requires.flushed ne)) le)

pub slice_bounds-net_sum-start : goal.slice_bounds-net_sum-start
slice_bounds-net_sum-start c =
    let s = c.self.inside in
    let le = rw (← c.self.view_is) at c.requires.within in
    rw c.deref.ensures.value (within (settled (s.cells.items ++ s.list.items)) s.list.items c.args.from (λ ne. flushed_is s.cells.items s.list.items s.touched.items _ _ s.flushed c.self.invariant (ap (λ v. v.flushed) c.self.view_is ∙ c.requires.flushed ne)) le)

pub net_sum-listed-requires-clause-small : goal.net_sum-listed-requires-clause-small
net_sum-listed-requires-clause-small c =
    let s = c.self.inside in
    rw (c.deref.ensures.value, take_rest) (small_drop c.args.from s.list.items (small_both s.cells.items s.list.items s.touched.items _ _ s.flushed c.self.invariant).1)

pub net_sum-requires-clause-small : goal.net_sum-requires-clause-small
net_sum-requires-clause-small c =
    let s = c.self.inside in
    rw c.deref-else-self.ensures.value (small_both s.cells.items s.list.items s.touched.items _ _ s.flushed c.self.invariant).0

pub returns-then-self : goal.returns-then-self
returns-then-self c =
    let s = c.self.inside in
    let same = flushed_is s.cells.items s.list.items s.touched.items _ _ s.flushed c.self.invariant c.if-self.true in
    let listed = rw (c.deref.ensures.value, take_rest) at c.net_sum-listed.ensures.value in
    let bound = c.net_sum-listed.ensures.bound in
    rw (← c.self.view_is, same) (omega (arith, ints, listed))

pub returns-else-self : goal.returns-else-self
returns-else-self c =
    let s = c.self.inside in
    let from : c.args.from ≡ 0 = first c.args.from s.flushed (λ ne. ap (λ v. v.flushed) c.self.view_is ∙ c.requires.flushed ne) c.if-self.false in
    let listed = rw from at (rw (c.deref.ensures.value, take_rest) at c.net_sum-listed.ensures.value) in
    let celled = rw c.deref-else-self.ensures.value at c.net_sum.ensures.value in
    let bound = c.net_sum-listed.ensures.bound in
    let bounds = c.net_sum.ensures.bound in
    let all = sum_settled c.args.serial (s.cells.items ++ s.list.items) in
    let parts = sum_append c.args.serial s.cells.items s.list.items in
    rw (← c.self.view_is, from) (omega (arith, ints, listed, celled, all, parts))
