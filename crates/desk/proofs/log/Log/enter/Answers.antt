use Rattle.std.proofs.Common.{◌≡◌, ◌++◌, ◌∷◌, [], List, sym, subst, rules}
use Rattle.desk.specs.declared.entries.Entry.{Entry}
use Rattle.desk.specs.Replies.{AreReplies}
use Rattle.desk.proofs.ReplyLists.{same_lists}
use Rattle.desk.proofs.log.Log.enter.Goals as goal

pub invariant_of-self : goal.invariant_of-self
invariant_of-self g c =
    let i = c.self.inside in let m = c.self.invariant in
    let history : c.append.new.past.entries ≡ i.past.entries ++ c.args.entry ∷ [] = search rules in (
      search rules,
      search rules,
      subst (λ (h : List Entry). AreReplies i.forgotten h i.replies.lists) (sym history) (same_lists i.forgotten i.past.entries i.replies.lists c.args.entry m.2 c.requires.no_reply),
    )
