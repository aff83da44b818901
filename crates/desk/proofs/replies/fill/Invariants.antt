use Rattle.std.proofs.Common.{◌≡◌, ◌+◌, ◌++◌, replicate}
use Rattle.std.specs.Prelude.{vec_len, vec_capacity}
use Rattle.desk.proofs.replies.fill.Given as goal

abbrev pub invariant-loop : goal.invariant-loop
invariant-loop l = (l.all.items ≡ l.initial.all.items ++ replicate l.counter (0, 0)) × (vec_len l.all ≡ vec_len l.initial.all + l.counter) × (vec_capacity l.all ≡ vec_capacity l.initial.all)
