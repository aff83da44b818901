use Rattle.std.proofs.Common.{◌∙◌, sym, ℕ, arith, length-take, length-drop}
use Rattle.std.proofs.lemmas.Option.{IfSome_then}
use Rattle.replay.proofs.Numbers.{next_taken, next_missing}
use Rattle.replay.proofs.words.next_number.Goals as goal

pub returns-then-begins_well-clause-taken : goal.returns-then-begins_well-clause-taken
returns-then-begins_well-clause-taken c = next_taken c.args.tail.now c.digits.result (omega arith) (sym c.begins_well.ensures ∙ c.if-begins_well.true) c.digits.ensures.taken

pub returns-then-begins_well-clause-shorter : goal.returns-then-begins_well-clause-shorter
returns-then-begins_well-clause-shorter c =
    IfSome_then c.digits.result c.digits.ensures.rest (λ taken le. omega (arith, le, c.in-len1-up.len_at_least, length-take {A = ℕ}, length-drop {A = ℕ}))

pub returns-else-begins_well-clause-taken : goal.returns-else-begins_well-clause-taken
returns-else-begins_well-clause-taken c = next_missing c.args.tail.now (omega arith) (sym c.begins_well.ensures ∙ c.if-begins_well.false)
