use Rattle.std.proofs.Common.{◌≡◌, ◌∙◌, ap, length, rules, subst, sym, ℕ}
use Rattle.berths.specs.Berths.{Berthing}
use Rattle.thread_list.specs.Sharing.{AreInOrder}
use Rattle.thread_list.proofs.Paired.{long}
use Rattle.thread_list.proofs.shared.Shared.new.Goals as goal

pub invariant_of-shared : goal.invariant_of-shared
invariant_of-shared g c =
    let p = c.in_ok-board.ensures in
    let placed : Berthing g.row.N.Denot → ℕ = λ r. r.place in
    let many : length c.berths_of.result.items ≡ g.N.Name.board.places = ap length c.berths_of.ensures ∙ long placed _ ∙ p.rooms in
    (p.words.0, p.words.1, many, subst AreInOrder (sym c.berths_of.ensures) p.order, p.slots, search rules)
