use Rattle.std.proofs.Common.{◌+◌, ◌∙◌, length, get_or, map, sym, ap, subst, refl, arith}
use Rattle.std.specs.Prelude.{slice_set}
use Rattle.std.proofs.lemmas.List.{length-set}
use Rattle.desk.specs.Replies.{nothing_said}
use Rattle.desk.specs.Spans.{RepliesSeen, AreBehind, said_in, answered}
use Rattle.desk.proofs.Spans.{next, place_in, room_in, read_in, read_said, lists_set, behind_set, few_at, few_set}
use Rattle.desk.proofs.replies.Replies.push.Goals as goal

pub overflow_add-start : goal.overflow_add-start
overflow_add-start c =
    let i = c.self.inside in
    let low = place_in i.all.items i.spans.items c.args.self.now.lists c.args.place (ap (λ (d : RepliesSeen). d.lists) c.self.view_is) c.requires.place in
    let at = read_in i.spans.items 0 (length i.all.items) c.args.place c.index.result.now c.self.invariant.0 low c.index.ensures in
    omega (arith, at.1, i.all.ok.0, i.all.small)

pub index_mut-requires-2 : goal.index_mut-requires-2
index_mut-requires-2 c =
    let i = c.self.inside in
    let lists = ap (λ (d : RepliesSeen). d.lists) c.self.view_is in
    let low = place_in i.all.items i.spans.items c.args.self.now.lists c.args.place lists c.requires.place in
    let at = read_in i.spans.items 0 (length i.all.items) c.args.place c.index.result.now c.self.invariant.0 low c.index.ensures in
    let room = room_in i.all.items i.spans.items c.args.self.now.lists c.args.place c.index.result.now lists low c.index.ensures c.requires.room in
    omega (arith, at.1, i.all.ok.0, room)

pub overflow_add-said : goal.overflow_add-said
overflow_add-said c =
    let i = c.self.inside in
    let low = place_in i.all.items i.spans.items c.args.self.now.lists c.args.place (ap (λ (d : RepliesSeen). d.lists) c.self.view_is) c.requires.place in
    let few = few_at i.spans.items c.args.place c.index.result.now c.self.invariant.1 low c.index.ensures in
    omega (arith, few)

pub invariant_of-self : goal.invariant_of-self
invariant_of-self c =
    let i = c.self.inside in let s = c.index.result.now in
    let lists = ap (λ (d : RepliesSeen). d.lists) c.self.view_is in
    let low = place_in i.all.items i.spans.items c.args.self.now.lists c.args.place lists c.requires.place in
    let room = room_in i.all.items i.spans.items c.args.self.now.lists c.args.place s lists low c.index.ensures c.requires.room in
    let behind = behind_set i.spans.items 0 (length i.all.items) c.args.place s c.self.invariant.0 low c.index.ensures room in (
      subst (AreBehind 0 (slice_set i.spans.items c.args.place (next s))) (sym (length-set i.all.items (s.start + s.said) (c.args.name, c.args.reply))) behind,
      few_set i.spans.items c.args.place s c.self.invariant.1 low c.index.ensures room,
    )

pub returns : goal.returns
returns c =
    let i = c.self.inside in let s = c.index.result.now in
    let lists = ap (λ (d : RepliesSeen). d.lists) c.self.view_is in
    let low = place_in i.all.items i.spans.items c.args.self.now.lists c.args.place lists c.requires.place in
    let room = room_in i.all.items i.spans.items c.args.self.now.lists c.args.place s lists low c.index.ensures c.requires.room in
    let said = read_said i.all.items i.spans.items c.args.place s nothing_said low c.index.ensures in
    lists_set i.spans.items 0 (length i.all.items) i.all.items c.args.place (c.args.name, c.args.reply) s c.self.invariant.0 refl low c.index.ensures room
    ∙ ap (λ x. slice_set (map (said_in i.all.items) i.spans.items) c.args.place (answered (c.args.name, c.args.reply) x)) (sym said)
    ∙ ap (λ (d : RepliesSeen). slice_set d.lists c.args.place (answered (c.args.name, c.args.reply) (get_or d.lists c.args.place nothing_said))) c.self.view_is
