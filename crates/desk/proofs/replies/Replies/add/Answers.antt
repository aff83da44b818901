use Rattle.std.proofs.Common.{◌++◌, ◌∷◌, [], ◌∙◌, replicate, List, ℕ, ap, arith}
use Rattle.std.proofs.lemmas.List.{length-replicate}
use Rattle.desk.specs.Spans.{RepliesSeen, silent}
use Rattle.desk.proofs.Spans.{behind_more, few_more, lists_push}
use Rattle.desk.proofs.replies.Replies.add.Goals as goal

pub invariant_of-self : goal.invariant_of-self
invariant_of-self c =
    let i = c.self.inside in let places : List (ℕ × ℕ) = replicate c.args.replies (0, 0) in
    let pushed = c.push_reserved.ensures.items in (
      behind_more i.all.items c.fill.new.all.items places i.spans.items c.push_reserved.new.self.items c.len-start.result c.args.replies c.self.invariant.0 (omega (arith, c.len-start.ensures, i.all.ok.0)) (length-replicate c.args.replies (0, 0)) c.fill.ensures.items pushed,
      few_more i.spans.items c.push_reserved.new.self.items c.len-start.result c.args.replies c.self.invariant.1 c.requires.few pushed,
    )

pub returns : goal.returns
returns c =
    let i = c.self.inside in
    lists_push i.all.items c.fill.new.all.items (replicate c.args.replies (0, 0)) i.spans.items c.push_reserved.new.self.items c.len-start.result c.args.replies c.self.invariant.0 c.fill.ensures.items c.push_reserved.ensures.items
    ∙ ap (λ (d : RepliesSeen). d.lists ++ silent c.args.replies ∷ []) c.self.view_is
