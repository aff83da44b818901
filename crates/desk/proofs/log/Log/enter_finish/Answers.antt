use Rattle.std.proofs.Common.{◌≡◌, ◌<◌, ◌-◌, get_or, ◌++◌, ◌∷◌, [], List, sym, ap, subst, rules, arith}
use Rattle.std.specs.Prelude.{slice_set}
use Rattle.desk.specs.declared.entries.Entry.{Entry}
use Rattle.desk.specs.declared.entries.Entry.TheVariants as entry
use Rattle.desk.specs.Replies.{Said, AreReplies, HasLess, of_number, nothing_said}
use Rattle.desk.specs.Spans.{answered}
use Rattle.desk.proofs.ReplyLists.{in_lists, read_here, said_lists, less_room}
use Rattle.desk.proofs.log.Log.enter_finish.Goals as goal

pub push-requires-clause-place : goal.push-requires-clause-place
push-requires-clause-place g c = let at = in_lists (c.args.op - c.self.inside.forgotten) c.self.inside.replies.lists (search rules) in omega (arith, at.1)

pub push-requires-clause-room : goal.push-requires-clause-room
push-requires-clause-room g c =
    let lists = c.self.inside.replies.lists in
    let room : 0 < (of_number (c.args.op - c.self.inside.forgotten) lists).room = search rules in
    subst (λ (s : Said). 0 < s.room) (read_here (c.args.op - c.self.inside.forgotten) lists (in_lists (c.args.op - c.self.inside.forgotten) lists room).0) room

pub invariant_of-self : goal.invariant_of-self
invariant_of-self g c =
    let i = c.self.inside in let m = c.self.invariant in let lists = c.self.inside.replies.lists in
    let at = in_lists (c.args.op - c.self.inside.forgotten) lists (search rules) in
    let finish = entry.Finish c.args.op c.args.name c.args.reply in
    let more = answered (c.args.name, c.args.reply) (get_or lists (c.args.op - c.self.inside.forgotten - 1) nothing_said) in
    let said = ap (λ (s : Said). s.said ++ (c.args.name, c.args.reply) ∷ []) (sym (read_here (c.args.op - c.self.inside.forgotten) lists at.0)) in
    let history : c.append.new.past.entries ≡ i.past.entries ++ finish ∷ [] = search rules in (
      search rules,
      search rules,
      subst (λ (h : List Entry). AreReplies i.forgotten h c.push.new.self.lists) (sym history)
          (subst (AreReplies i.forgotten (i.past.entries ++ finish ∷ [])) (sym c.push.ensures)
          (said_lists i.forgotten i.past.entries lists more c.args.op c.args.name c.args.reply m.2 at.0 at.1 said)),
    )

pub returns-clause-rooms : goal.returns-clause-rooms
returns-clause-rooms g c =
    let lists = c.self.inside.replies.lists in
    let room : 0 < (of_number (c.args.op - c.self.inside.forgotten) lists).room = search rules in
    let at = in_lists (c.args.op - c.self.inside.forgotten) lists room in
    let more = answered (c.args.name, c.args.reply) (get_or lists (c.args.op - c.self.inside.forgotten - 1) nothing_said) in
    let here = ap (λ (s : Said). s.room) (read_here (c.args.op - c.self.inside.forgotten) lists at.0) in
    let less : HasLess (c.args.op - c.self.inside.forgotten) lists (slice_set lists (c.args.op - c.self.inside.forgotten - 1) more) = less_room lists more (c.args.op - c.self.inside.forgotten) at.0 at.1 (omega (arith, here, room)) in
    let new : HasLess (c.args.op - c.self.inside.forgotten) lists c.push.new.self.lists = subst (HasLess (c.args.op - c.self.inside.forgotten) lists) (sym c.push.ensures) less in
    search rules
