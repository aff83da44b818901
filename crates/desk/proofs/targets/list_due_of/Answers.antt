use Rattle.std.proofs.Common.{◌≡◌, ◌++◌, ◌-◌, suc, true, [], ◌∷◌, take, vec_capacity, vec_len, sym, ap, ◌∙◌, rules}
use Rattle.std.specs.List.{list_any}
use Rattle.desk.specs.Targets.{is_due_target, due_of}
use Rattle.desk.specs.Fields.{current_of}
use Rattle.desk.proofs.DueLists.{due_first, moved}
use Rattle.desk.proofs.targets.list_due_of.Goals as goal

pub loop-one-preserved-else-len-capacity : goal.loop-one-preserved-else-len-capacity
loop-one-preserved-else-len-capacity g c =
    let l = c.loop-one in let p = c.push_reserved in
    let cs = current_of {J = g.row.J.Denot} c.args.request.now ∷ [] in
    let one = c.in-Some.one.now in let others = c.in-Some.others.now in
    let due : list_any (is_due_target one) cs ≡ true = search rules in
    let less : vec_capacity l.list - vec_len l.list ≡ suc (vec_capacity p.new.self - vec_len p.new.self) = search rules in
    let pushed : p.new.self.items ≡ l.list.items ++ one ∷ [] = search rules in
    let rest_is : l.rest.now ≡ one ∷ others = search rules in (
      ap (λ xs. xs ++ take (vec_capacity p.new.self - vec_len p.new.self) (due_of cs others)) pushed
          ∙ (moved l.list.items one (due_of cs others) (vec_capacity l.list - vec_len l.list) (vec_capacity p.new.self - vec_len p.new.self) less
          ∙ (ap (λ rs. l.list.items ++ take (vec_capacity l.list - vec_len l.list) rs) (sym (ap (due_of cs) rest_is ∙ due_first cs one others due))
          ∙ l.invariant.0)),
      search rules,
    )
