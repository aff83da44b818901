use Rattle.std.proofs.Common.{◌≡◌, ℕ, ◌^◌, ◌<◌, length, subst}
use Rattle.frames.specs.BoardViews.{slot_of}
use Rattle.board.specs.Boards.{KeeperSeen}
use Rattle.board.proofs.keeper.Keeper.has_slots.Goals as goal

pub returns-clause-slots : goal.returns-clause-slots
returns-clause-slots c = subst (λ (k : KeeperSeen). length k.seen.slots ≡ k.board.slots) c.self.view_is c.self.invariant.6.slots_are

pub returns-clause-small : goal.returns-clause-small
returns-clause-small c = subst (λ (k : KeeperSeen). (i : ℕ) → i < k.board.slots → (slot_of k.seen i).serial < 2 ^ 40) c.self.view_is (λ i h. (c.self.invariant.6.each i h).small)
