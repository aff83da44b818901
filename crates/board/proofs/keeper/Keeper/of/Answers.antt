use Rattle.std.proofs.Common.{[], sym, ap, ◌∙◌, subst}
use Rattle.frames.specs.declared.board_rule.BoardView.TheVariants.{Keeper}
use Rattle.board.specs.Boards.{keeper_of, stamp_of}
use Rattle.board.specs.Notes.{AreNoted}
use Rattle.board.proofs.Notes.{noted_first}
use Rattle.board.proofs.keeper.Keeper.of.Goals as goal

pub invariant_of-result : goal.invariant_of-result
invariant_of-result c =
    let k = c.requires.keeper in let b = c.requires.board in (
      k ∙ ap (λ v. Keeper (keeper_of v) [] (stamp_of v)) (sym k),
      sym (ap (λ v. (keeper_of v).moment) k),
      b.0,
      b.1,
      b.2,
      b.3,
      subst (λ v. AreNoted c.args.slots c.args.notes.items (keeper_of v)) (sym k) (noted_first c.args.slots c.args.places c.args.notes.items c.requires.notes),
    )
