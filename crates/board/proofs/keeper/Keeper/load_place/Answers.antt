use Rattle.std.proofs.Common.{[], arith, ◌≡◌, ℕ, sym, refl, ap, ◌∙◌, subst}
use Rattle.frames.specs.declared.board_rule.KeeperView.{KeeperView}
use Rattle.frames.specs.declared.board_rule.BoardView.TheVariants.{Keeper}
use Rattle.frames.specs.declared.board_rule.EntryState.TheVariants.{NotEntrant}
use Rattle.frames.specs.BoardViews.{how_often, has_code, slot_of, IsIn, in_use, not_entrant, in_state, entry_stored, slot_with_look}
use Rattle.board.specs.Boards.{BoardId, board_id, keeper_of, stamp_of}
use Rattle.board.specs.Plays.{asked}
use Rattle.board.specs.Notes.{Agrees, blank}
use Rattle.board.proofs.Notes.{noted_set, agrees_look, any_default}
use Rattle.board.proofs.Keepers.{loads_place}
use Rattle.board.proofs.keeper.Keeper.load_place.Goals as goal

pub load-found-requires : goal.load-found-requires
load-found-requires g c =
    let same : board_id c.self.inside.seat.table_id c.self.inside.slots c.self.inside.places ≡ board_id c.board.inside.table.shared.table_id c.board.inside.slots c.board.inside.places
    = ap (λ t. t.board) c.self.view_is ∙ (c.requires.board ∙ sym c.board.view_is) in
    let slots = ap (λ (b : BoardId). b.slots) same in let places = ap (λ (b : BoardId). b.places) same in
    let mine = c.self.invariant in let its = c.board.invariant in let wide = its.1 in
    let key : c.board.inside.table.shared.key ≡ (c.self.inside.slots, c.self.inside.places) = its.0 ∙ (λ i. (sym slots i, sym places i)) in
    let sizes : c.board.inside.table.shared.key ≡ (c.args.self.now.board.slots, c.args.self.now.board.places) = key ∙ ap (λ t. (t.board.slots, t.board.places)) c.self.view_is in
    let key0 = ap (λ (n : ℕ × ℕ). n.0) key in let key1 = ap (λ (n : ℕ × ℕ). n.1) key in
    let seen = ap (λ t. t.seen) c.self.view_is in
    let now_slots : c.args.self.now.board.slots ≡ c.self.inside.slots = sym (ap (λ t. t.board.slots) c.self.view_is) in
    let now_places : c.args.self.now.board.places ≡ c.self.inside.places = sym (ap (λ t. t.board.places) c.self.view_is) in
    let low = c.requires.slot.0 in let low' = c.requires.slot.1 in (
      ap (λ (b : BoardId). b.table) same,
      omega arith,
      rw c.requires.about (loads_place _ _ _ _ (asked c.args.self.now.board c.args.code c.args.place) mine.0 sizes _ (omega arith) (omega arith) (omega arith)
          (subst (λ k. IsIn k c.args.code NotEntrant) (sym seen) c.requires.code)),
    )

pub invariant_of-self : goal.invariant_of-self
invariant_of-self g c =
    let same : board_id c.self.inside.seat.table_id c.self.inside.slots c.self.inside.places ≡ board_id c.board.inside.table.shared.table_id c.board.inside.slots c.board.inside.places
    = ap (λ t. t.board) c.self.view_is ∙ (c.requires.board ∙ sym c.board.view_is) in
    let slots = ap (λ (b : BoardId). b.slots) same in let places = ap (λ (b : BoardId). b.places) same in
    let mine = c.self.invariant in let its = c.board.invariant in let wide = its.1 in
    let key : c.board.inside.table.shared.key ≡ (c.self.inside.slots, c.self.inside.places) = its.0 ∙ (λ i. (sym slots i, sym places i)) in
    let sizes : c.board.inside.table.shared.key ≡ (c.args.self.now.board.slots, c.args.self.now.board.places) = key ∙ ap (λ t. (t.board.slots, t.board.places)) c.self.view_is in
    let key0 = ap (λ (n : ℕ × ℕ). n.0) key in let key1 = ap (λ (n : ℕ × ℕ). n.1) key in
    let seen = ap (λ t. t.seen) c.self.view_is in
    let now_slots : c.args.self.now.board.slots ≡ c.self.inside.slots = sym (ap (λ t. t.board.slots) c.self.view_is) in
    let now_places : c.args.self.now.board.places ≡ c.self.inside.places = sym (ap (λ t. t.board.places) c.self.view_is) in
    let low = c.requires.slot.0 in let low' = c.requires.slot.1 in let load = c.load-found.ensures in let after = load.2.0 in let k = keeper_of c.self.inside.seat.me.0 in let small = mine.4 in
    let notes = mine.6 in let long = notes.notes_are in
    let after' : keeper_of c.load-found.new.seat.me.0 ≡ Rattle.frames.specs.BoardViews.looked_at k c.args.code c.args.place c.load-found.result = ap keeper_of after ∙ rw c.requires.about refl in (
      after ∙ ap (λ v. Keeper (keeper_of v) [] (stamp_of v)) (sym after),
      mine.1 ∙ sym (ap (λ (v : KeeperView). v.moment) after'),
      ap (λ z. z.words) load.0 ∙ mine.2,
      mine.3,
      mine.4,
      mine.5,
      noted_set c.self.inside.slots c.self.inside.notes.items k (keeper_of c.load-found.new.seat.me.0) c.args.code.slot _ (slot_with_look (slot_of k c.args.code.slot) c.args.place c.load-found.result)
          (ap (λ (v : KeeperView). v.slots) after') notes (omega arith)
          (agrees_look c.index.result.now _ (slot_of k c.args.code.slot) c.args.place c.load-found.result c.look-past.ensures.note
          (let e = c.index.ensures in subst (λ t. Agrees t (slot_of k c.args.code.slot)) (sym (e ∙ any_default c.self.inside.notes.items c.args.code.slot c.index.result.now blank (omega arith))) (notes.each c.args.code.slot (omega arith)))),
    )
