use Rattle.std.proofs.Common.{rules, ◌≡◌, ◌+◌, ◌-◌, ◌++◌, ◌||◌, suc, true, false, Some, [], ◌∷◌, length, map, take, vec_len, vec_capacity, sym, ap, ◌∙◌, arith}
use Rattle.std.proofs.lemmas.List.{map-append}
use Rattle.desk.specs.Fields.{at}
use Rattle.desk.specs.Targets.{untold}
use Rattle.coordinator_core.specs.Telling.{telling_of, tellings, is_there, any_more}
use Rattle.coordinator_core.specs.declared.listing.PendingOp.{PendingOp}
use Rattle.coordinator_core.specs.declared.listing.PendingJob.{PendingJob}
use Rattle.coordinator_core.proofs.Tellings.{at_same, some_first, some_more, moved, or_moved}
use Rattle.coordinator_core.proofs.listing.list_each.Goals as goal
use Rattle.coordinator_core.proofs.listing.list_each.Goals.{then-has_more, else-has_more}

pub loop-who-preserved-after-has_more : goal.loop-who-preserved-after-has_more
loop-who-preserved-after-has_more g c =
    let l = c.loop-who in let p = c.push_reserved in let s = at c.args.desk.now in
    let kind = c.args.kind in let armer = c.args.armer.now.seen in
    let who = c.in-Some.who.now in let others = c.in-Some.others.now in let what = c.in-Some-telling_of.what in
    let rest = tellings s kind armer others in
    let f : PendingJob g.row.J.Denot → PendingOp = λ u. u.what in
    let here : at l.desk ≡ s = at_same l.desk c.args.desk.now (search rules) (search rules) (search rules) in
    let is : telling_of s kind armer who ≡ Some what =
    sym (ap (λ t. telling_of t kind armer who) here) ∙ sym c.telling_of.ensures ∙ c.in-Some-telling_of.is in
    let rest_is : l.rest.now ≡ who ∷ others = search rules in
    let first : tellings s kind armer l.rest.now ≡ what ∷ rest = ap (tellings s kind armer) rest_is ∙ some_first s kind armer who others what is in
    let appended : p.new.self.items ≡ l.list.items ++ c.with_job.result ∷ [] = search rules in
    let pushed : map f p.new.self.items ≡ map f l.list.items ++ what ∷ [] =
    ap (map f) appended ∙ map-append f l.list.items (c.with_job.result ∷ []) ∙ ap (λ t. map f l.list.items ++ t ∷ []) c.with_job.ensures.what in
    let less : vec_capacity l.list - vec_len l.list ≡ suc (vec_capacity p.new.self - vec_len p.new.self) = search rules in
    let long : length (tellings s kind armer l.rest.now) ≡ suc (length rest) = ap length first in
    let one_more : vec_len p.new.self ≡ vec_len l.list + 1 = search rules in
    let count = l.invariant.1 in
    let more_is : c.if-has_more.more ≡ (c.has_more.result || l.more) = elim c.if-has_more.branch [
      | then-has_more w ↦ (let is_more : c.has_more.result ≡ true = search rules in let now : c.if-has_more.more ≡ true = search rules in now ∙ sym (ap (λ b. b || l.more) is_more))
      | else-has_more w ↦ (let no_more : c.has_more.result ≡ false = search rules in let now : c.if-has_more.more ≡ l.more = search rules in now ∙ sym (ap (λ b. b || l.more) no_more))
    ] in
    let behind : c.has_more.result ≡ is_there (untold s what.name what.number) = c.has_more.ensures ∙ ap (λ t. is_there (untold t what.name what.number)) here in
    let any_is : any_more s kind armer l.rest.now ≡ (c.has_more.result || any_more s kind armer others) =
    ap (any_more s kind armer) rest_is ∙ some_more s kind armer who others what is ∙ sym (ap (λ b. b || any_more s kind armer others) behind) in (
      ap (λ xs. xs ++ take (vec_capacity p.new.self - vec_len p.new.self) rest) pushed
          ∙ (moved (map f l.list.items) what rest (vec_capacity l.list - vec_len l.list) (vec_capacity p.new.self - vec_len p.new.self) less
          ∙ (ap (λ rs. map f l.list.items ++ take (vec_capacity l.list - vec_len l.list) rs) (sym first)
          ∙ l.invariant.0)),
      omega (arith, long, one_more, count),
      ap (λ b. b || any_more s kind armer others) more_is
          ∙ (or_moved c.has_more.result l.more (any_more s kind armer others) ∙ (ap (λ b. l.more || b) (sym any_is) ∙ l.invariant.2)),
      search rules,
      search rules,
      search rules,
      search rules,
      search rules,
    )
