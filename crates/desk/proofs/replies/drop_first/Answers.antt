-- The remaining items are moved to the front, and the list is cut after them.
use Rattle.std.proofs.Common.{◌≡◌, ◌∙◌, ◌+◌, ◌-◌, ◌≤◌, ℕ, sym, ap, length, take, drop, arith, rules}
use Rattle.std.specs.Prelude.{vec_len}
use Rattle.std.specs.List.{copy_within}
use Rattle.std.proofs.lemmas.List.{take_all, length-drop}
use Rattle.std.proofs.lemmas.List.Edits.{take-paste}
use Rattle.desk.proofs.replies.drop_first.Goals as goal

pub returns : goal.returns
returns c = λ d.
    let list = d.args.list.now in
    let rest = drop d.args.count list.items in
    let kept : ℕ = vec_len list - d.args.count in
    let count : vec_len list ≡ length list.items = search rules in
    let length_is : length rest ≡ kept = length-drop d.args.count list.items ∙ ap (λ n. n - d.args.count) (sym count) in
    let from_0 : kept ≡ 0 + kept = omega arith in
    let at_most : kept ≤ length rest = omega arith in
    let at_least : length rest ≤ kept = omega arith in
    record {
      items = d.truncate.ensures.items
          ∙ ap (λ n. take (n - d.args.count) d.copy_within.new.self.items) d.len.ensures
          ∙ ap (take kept) d.copy_within.ensures.items
          ∙ ap (λ n. take n (copy_within list.items d.args.count (vec_len list) 0)) from_0
          ∙ take-paste list.items 0 rest kept (omega arith) at_most
          ∙ take_all kept rest at_least;
    }
