use Rattle.std.proofs.Common.{arith, eqb, ap, ◌∙◌}
use Rattle.frames.specs.declared.board_rule.SlotView.{SlotView}
use Rattle.frames.specs.BoardViews.{slot_of}
use Rattle.board.proofs.Closings.{clear_nowhere, weighed_slot}
use Rattle.board.proofs.keeper.Keeper.weigh.Goals as goal

pub returns-in-0-clause-clear : goal.returns-in-0-clause-clear
returns-in-0-clause-clear c =
    let slots = c.has_slots.ensures.slots in let low = c.requires.slot in let after = c.load_count.ensures.step in
    let here = weighed_slot c.args.self.now.seen c.args.code c.load_count.result (omega arith) in
    clear_nowhere c.args.self.now.board c.args.self.now.seen c.load_count.new.self.seen c.args.code c.load_count.ensures.made c.requires.slot
    (ap (λ k. (slot_of k c.args.code.slot).serial) after ∙ (ap (λ (s : SlotView). s.serial) here ∙ c.requires.code.0))
    (ap (λ k. (slot_of k c.args.code.slot).clear) after ∙ (ap (λ (s : SlotView). s.clear) here ∙ ap (λ n. eqb n 0) c.in-0.is))
