use Rattle.std.proofs.Common.{◌≡◌, ◌<◌, ◌≤◌, ◌^◌, sym, ap, ◌∙◌, rules, arith}
use Rattle.std.specs.Prelude.{decimal}
use Rattle.std.proofs.lemmas.Fmt.{parse-decimal}
use Rattle.std.proofs.lemmas.Slice.Eq.{bytes_eq-Decides}
use Rattle.run_picture.proofs.LineNumbers.{line_of_decimal, no_line_of}
use Rattle.run_picture.proofs.words.read_number.Goals as goal
use Rattle.run_picture.proofs.words.read_number.Goals.{else-eq-via-then-eq+then-number-ge1+else-number-le-GREATEST, else-eq-via-then-eq+else-number-ge1, else-eq-via-else-eq}

pub returns-in_default-clause-value : goal.returns-in_default-clause-value
returns-in_default-clause-value c = sym (no_line_of c.args.word.now (λ n is some few.
    cc (parse-decimal 64 n _ _ (omega (arith, few)) (omega (arith, few)) is c.parse.ensures.value.0, c.in_default.is)))

pub returns-then-number-le-GREATEST-clause-value : goal.returns-then-number-le-GREATEST-clause-value
returns-then-number-le-GREATEST-clause-value c =
    let is : c.args.word.now ≡ decimal c.in-Ok.number = search rules in
    let some : 1 ≤ c.in-Ok.number = grind (arith, c.if-number-ge1.true) in
    let few : c.in-Ok.number < 2 ^ 40 = grind (arith, c.if-number-le-GREATEST.true) in
    sym (line_of_decimal c.args.word.now c.in-Ok.number is some few)

pub returns-else-eq-clause-value : goal.returns-else-eq-clause-value
returns-else-eq-clause-value c = sym (no_line_of c.args.word.now (λ n is some few.
    let read = parse-decimal 64 n _ _ (omega (arith, few)) (omega (arith, few)) is c.parse.ensures.value.0 in
    let same : n ≡ c.in-Ok.number = cc (read, c.in-Ok.is) in
    elim c.else-eq.branch [
      | else-eq-via-then-eq+then-number-ge1+else-number-le-GREATEST w ↦ grind (arith, same, few, w.if-number-le-GREATEST)
      | else-eq-via-then-eq+else-number-ge1 w ↦ grind (arith, same, some, w.if-number-ge1)
      | else-eq-via-else-eq w ↦
          let text : c.format.result.now ≡ c.args.word.now = c.format.ensures.text ∙ ap decimal (sym same) ∙ sym is in
          grind (arith, text, w.if-eq, bytes_eq-Decides c.format.result.now c.args.word.now)
    ]))
