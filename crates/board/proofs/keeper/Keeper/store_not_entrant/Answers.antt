use Rattle.std.proofs.Common.{[], arith, ◌≡◌, ℕ, sym, refl, ap, ◌∙◌, subst}
use Rattle.frames.specs.declared.board_rule.KeeperView.{KeeperView}
use Rattle.frames.specs.declared.board_rule.BoardView.TheVariants.{Keeper}
use Rattle.frames.specs.declared.board_rule.EntryState.TheVariants.{InUse}
use Rattle.frames.specs.BoardViews.{IsIn, not_entrant, entry_stored}
use Rattle.board.specs.Boards.{BoardId, board_id, keeper_of, stamp_of}
use Rattle.board.specs.Plays.{asked}
use Rattle.board.specs.Notes.{Agrees}
use Rattle.board.proofs.Notes.{noted_set, agrees_new}
use Rattle.board.proofs.Keepers.{stores_not_entrant}
use Rattle.board.proofs.keeper.Keeper.store_not_entrant.Goals as goal

pub store-requires : goal.store-requires
store-requires g c =
    let same : board_id c.self.inside.seat.table_id c.self.inside.slots c.self.inside.places ≡ board_id c.board.inside.table.shared.table_id c.board.inside.slots c.board.inside.places
    = ap (λ t. t.board) c.self.view_is ∙ (c.requires.board ∙ sym c.board.view_is) in
    let slots = ap (λ (b : BoardId). b.slots) same in let places = ap (λ (b : BoardId). b.places) same in
    let mine = c.self.invariant in let its = c.board.invariant in let wide = its.1 in
    let key : c.board.inside.table.shared.key ≡ (c.self.inside.slots, c.self.inside.places) = its.0 ∙ (λ i. (sym slots i, sym places i)) in
    let sizes : c.board.inside.table.shared.key ≡ (c.args.self.now.board.slots, c.args.self.now.board.places) = key ∙ ap (λ t. (t.board.slots, t.board.places)) c.self.view_is in
    let key0 = ap (λ (n : ℕ × ℕ). n.0) key in let key1 = ap (λ (n : ℕ × ℕ). n.1) key in
    let seen = ap (λ t. t.seen) c.self.view_is in
    let now_slots : c.args.self.now.board.slots ≡ c.self.inside.slots = sym (ap (λ t. t.board.slots) c.self.view_is) in
    let now_places : c.args.self.now.board.places ≡ c.self.inside.places = sym (ap (λ t. t.board.places) c.self.view_is) in
    let low = c.requires.slot in (
      ap (λ (b : BoardId). b.table) same,
      omega arith,
      rw c.requires.about (stores_not_entrant _ _ _ _ (asked c.args.self.now.board c.args.code 0) mine.0 sizes _ _ c.entry_at.ensures c.word_of-word.ensures (omega arith)
          (subst (λ k. IsIn k c.args.code InUse) (sym seen) c.requires.code)),
    )

pub invariant_of-self : goal.invariant_of-self
invariant_of-self g c =
    let same : board_id c.self.inside.seat.table_id c.self.inside.slots c.self.inside.places ≡ board_id c.board.inside.table.shared.table_id c.board.inside.slots c.board.inside.places
    = ap (λ t. t.board) c.self.view_is ∙ (c.requires.board ∙ sym c.board.view_is) in
    let slots = ap (λ (b : BoardId). b.slots) same in let places = ap (λ (b : BoardId). b.places) same in
    let mine = c.self.invariant in let its = c.board.invariant in let wide = its.1 in
    let key : c.board.inside.table.shared.key ≡ (c.self.inside.slots, c.self.inside.places) = its.0 ∙ (λ i. (sym slots i, sym places i)) in
    let sizes : c.board.inside.table.shared.key ≡ (c.args.self.now.board.slots, c.args.self.now.board.places) = key ∙ ap (λ t. (t.board.slots, t.board.places)) c.self.view_is in
    let key0 = ap (λ (n : ℕ × ℕ). n.0) key in let key1 = ap (λ (n : ℕ × ℕ). n.1) key in
    let seen = ap (λ t. t.seen) c.self.view_is in
    let now_slots : c.args.self.now.board.slots ≡ c.self.inside.slots = sym (ap (λ t. t.board.slots) c.self.view_is) in
    let now_places : c.args.self.now.board.places ≡ c.self.inside.places = sym (ap (λ t. t.board.places) c.self.view_is) in
    let low = c.requires.slot in let after = c.store.ensures.2.0 in let notes = mine.6 in let k = keeper_of c.self.inside.seat.me.0 in
    let after' : keeper_of c.store.new.seat.me.0 ≡ entry_stored k c.args.code (not_entrant c.args.code k.moment) = ap keeper_of after ∙ rw c.requires.about refl in (
      after ∙ ap (λ v. Keeper (keeper_of v) [] (stamp_of v)) (sym after),
      mine.1 ∙ sym (ap (λ (v : KeeperView). v.moment) after'),
      ap (λ z. z.words) c.store.ensures.0 ∙ mine.2,
      mine.3,
      mine.4,
      mine.5,
      noted_set c.self.inside.slots c.self.inside.notes.items k (keeper_of c.store.new.seat.me.0) c.args.code.slot _ (not_entrant c.args.code k.moment) (ap (λ (v : KeeperView). v.slots) after') notes (omega arith)
          (subst (λ t. Agrees t (not_entrant c.args.code k.moment)) (sym c.at.ensures) (agrees_new c.self.inside.moment (not_entrant c.args.code k.moment) mine.1 refl
          c.requires.small)),
    )
