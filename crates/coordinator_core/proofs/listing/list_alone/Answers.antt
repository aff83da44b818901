use Rattle.std.proofs.Common.{rules, ◌≡◌, ◌≤◌, ◌+◌, ◌-◌, ◌++◌, suc, Some, [], ◌∷◌, length, map, take, vec_len, vec_capacity, sym, ap, subst, ◌∙◌, arith}
use Rattle.std.proofs.lemmas.List.{map-append, nil_from_length}
use Rattle.operations.specs.declared.Kind.TheVariants as kind
use Rattle.desk.specs.Fields.{at}
use Rattle.coordinator_core.specs.Telling.{telling_of, tellings, AreAskedAlone}
use Rattle.coordinator_core.specs.declared.listing.PendingOp.{PendingOp}
use Rattle.coordinator_core.specs.declared.listing.PendingJob.{PendingJob}
use Rattle.coordinator_core.proofs.Alone.{alone_is, none_further}
use Rattle.coordinator_core.proofs.Tellings.{some_first, moved}
use Rattle.coordinator_core.proofs.listing.list_alone.Goals as goal

pub loop-who-preserved-else-len-capacity : goal.loop-who-preserved-else-len-capacity
loop-who-preserved-else-len-capacity g c =
    let l = c.loop-who in let p = c.push_reserved in let s = at c.args.desk.now in let number = c.args.number in
    let armer = c.args.armer.now.seen in
    let who = c.in-Some.who.now in let others = c.in-Some.others.now in let what = c.in-Some-telling_alone.what in
    let rest = tellings s kind.Handshake armer others in
    let f : PendingJob g.row.J.Denot → PendingOp = λ u. u.what in
    let rest_is : l.rest.now ≡ who ∷ others = search rules in
    let asked : AreAskedAlone s number (who ∷ others) = subst (AreAskedAlone s number) rest_is l.invariant.2 in
    let is : telling_of s kind.Handshake armer who ≡ Some what =
    alone_is s number armer who asked.0 ∙ (sym c.telling_alone.ensures ∙ c.in-Some-telling_alone.is) in
    let first : tellings s kind.Handshake armer l.rest.now ≡ what ∷ rest =
    ap (tellings s kind.Handshake armer) rest_is ∙ some_first s kind.Handshake armer who others what is in
    let appended : p.new.self.items ≡ l.list.items ++ c.with_job.result ∷ [] = search rules in
    let pushed : map f p.new.self.items ≡ map f l.list.items ++ what ∷ [] =
    ap (map f) appended ∙ (map-append f l.list.items (c.with_job.result ∷ []) ∙ ap (λ t. map f l.list.items ++ t ∷ []) c.with_job.ensures.what) in
    let less : vec_capacity l.list - vec_len l.list ≡ suc (vec_capacity p.new.self - vec_len p.new.self) = search rules in
    let long : length (tellings s kind.Handshake armer l.rest.now) ≡ suc (length rest) = ap length first in
    let one_more : vec_len p.new.self ≡ vec_len l.list + 1 = search rules in
    let count = l.invariant.1 in (
      ap (λ xs. xs ++ take (vec_capacity p.new.self - vec_len p.new.self) rest) pushed
          ∙ (moved (map f l.list.items) what rest (vec_capacity l.list - vec_len l.list) (vec_capacity p.new.self - vec_len p.new.self) less
          ∙ (ap (λ rs. map f l.list.items ++ take (vec_capacity l.list - vec_len l.list) rs) (sym first)
          ∙ l.invariant.0)),
      omega (arith, long, one_more, count),
      asked.1,
      search rules,
      search rules,
      search rules,
      search rules,
      search rules,
    )

pub returns-clause-all : goal.returns-clause-all
returns-clause-all g c =
    let l = c.loop-who in let s = at c.args.desk.now in let armer = c.args.armer.now.seen in
    let over : l.rest.now ≡ [] = nil_from_length l.rest.now (search rules) in
    let none : length (tellings s kind.Handshake armer l.rest.now) ≡ 0 = ap (λ ls. length (tellings s kind.Handshake armer ls)) over in
    let count = l.invariant.1 in
    let same : vec_capacity l.list ≡ vec_capacity c.args.list.now = search rules in
    let inside : vec_len l.list ≤ vec_capacity l.list = search rules in
    λ _. (none_further s c.args.number armer c.args.due.now c.requires.asked, omega (arith, none, count, same, inside))
