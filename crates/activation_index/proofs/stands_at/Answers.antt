use Rattle.std.proofs.Common.{arith}
use Rattle.std.proofs.lemmas.Bool.Decides.{nat_tests}
use Rattle.activation_index.specs.declared.Entry.{Entry}
use Rattle.activation_index.proofs.Puts.{is_at, is_not_past, is_not_here}
use Rattle.activation_index.proofs.stands_at.Goals as goal

pub returns-then-place-entries-clause-yes : goal.returns-then-place-entries-clause-yes
returns-then-place-entries-clause-yes c = λ same.
    let none : Entry = record { serial = 0; count = 0 } in
    (c.if-place-entries.true, is_at c.args.entries.now c.args.serial c.args.place none c.if-place-entries.true (grind (arith, nat_tests)))

pub returns-then-place-entries-clause-no : goal.returns-then-place-entries-clause-no
returns-then-place-entries-clause-no c = λ other.
    let none : Entry = record { serial = 0; count = 0 } in
    is_not_here c.args.entries.now c.args.serial c.args.place none c.if-place-entries.true other

pub returns-else-place-entries-clause-no : goal.returns-else-place-entries-clause-no
returns-else-place-entries-clause-no c = λ _. is_not_past c.args.entries.now c.args.serial c.args.place (omega arith)
