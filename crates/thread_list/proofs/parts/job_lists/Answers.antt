use Rattle.std.proofs.Common.{◌≡◌, ◌++◌, ◌∷◌, [], List, Vec, Global, All, sym, subst, rules}
use Rattle.std.proofs.lemmas.List.Elements.{All-append, All-cons, All-nil}
use Rattle.berths.specs.Berths.{IsRoom}
use Rattle.thread_list.proofs.parts.job_lists.Goals as goal

-- One list with room goes behind the others.
pub loop-alloc-preserved : goal.loop-alloc-preserved
loop-alloc-preserved g c =
    let appended : c.push.new.self.items ≡ c.loop-alloc.lists.items ++ c.in_ok-list.list ∷ [] = search rules in
    let roomy : IsRoom c.in_ok-list.list = search rules in
    (search rules, subst (λ (ls : List (Vec g.row.J.Denot Global)). All IsRoom ls) (sym appended) (All-append IsRoom c.loop-alloc.lists.items _ c.loop-alloc.invariant.1 (All-cons IsRoom _ [] roomy (All-nil IsRoom))))
