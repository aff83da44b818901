use Rattle.std.proofs.Common.{◌+◌, ◌∙◌, ap, sym, refl, rules}
use Rattle.std.specs.Prelude.{drop}
use Rattle.operations.specs.Names.{among}
use Rattle.desk.proofs.Distinct.{one_off, none_off, first_off, drop_remove}
use Rattle.desk.proofs.names.take_off.Goals as goal

pub returns-then-index-name-clause-others : goal.returns-then-index-name-clause-others
returns-then-index-name-clause-others c =
    first_off c.args.name c.args.names.now.items c.args.gone (c.args.gone + 1) c.index.result.now refl c.requires.distinct (search rules) (sym c.index.ensures ∙ c.if-index-name.true)

pub returns-in-Some-clause-others : goal.returns-in-Some-clause-others
returns-in-Some-clause-others c =
    let found = rw c.rest.ensures at c.in-Some.ensures.some in
    ap (drop c.args.gone) c.remove.ensures.items ∙ drop_remove c.args.names.now.items c.args.gone c.in-Some.place (c.args.gone + c.in-Some.place) c.requires.gone refl
    ∙ one_off c.args.name c.in-Some.place (drop c.args.gone c.args.names.now.items) c.requires.distinct found.0 found.1

pub returns-in_default-clause-others : goal.returns-in_default-clause-others
returns-in_default-clause-others c =
    none_off c.args.name (drop c.args.gone c.args.names.now.items) (ap (among c.args.name) (sym c.rest.ensures) ∙ c.in_default.ensures.none)
