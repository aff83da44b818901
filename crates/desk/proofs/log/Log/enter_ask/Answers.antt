use Rattle.std.proofs.Common.{◌≡◌, ◌++◌, ◌∷◌, [], List, refl, sym, subst, rules}
use Rattle.desk.specs.declared.entries.Entry.{Entry}
use Rattle.desk.specs.Replies.{AreReplies}
use Rattle.desk.specs.Spans.{silent}
use Rattle.desk.proofs.ReplyLists.{more_lists}
use Rattle.desk.proofs.log.Log.enter_ask.Goals as goal

pub invariant_of-self : goal.invariant_of-self
invariant_of-self g c =
    let i = c.self.inside in let m = c.self.invariant in
    let ask = c.args.seen.value in
    let history : c.append.new.past.entries ≡ i.past.entries ++ ask ∷ [] = search rules in (
      search rules,
      search rules,
      subst (λ (h : List Entry). AreReplies i.forgotten h c.add.new.self.lists) (sym history)
          (subst (AreReplies i.forgotten (i.past.entries ++ ask ∷ [])) (sym c.add.ensures) (more_lists i.forgotten i.past.entries i.replies.lists (silent c.args.targets) ask m.2 refl c.requires.no_reply)),
    )
