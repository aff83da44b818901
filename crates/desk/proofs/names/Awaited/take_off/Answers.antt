use Rattle.std.proofs.Common.{◌≡◌, ◌∙◌, List, ℕ, true, ◌∷◌, ◌++◌, ap, sym, subst, arith}
use Rattle.std.specs.Option.{option_to_list}
use Rattle.std.specs.Prelude.{Option, drop}
use Rattle.operations.specs.Names.{is_distinct}
use Rattle.desk.specs.Machine.{others}
use Rattle.desk.specs.Names.{NamesSeen}
use Rattle.desk.proofs.Distinct.{one_off}
use Rattle.desk.proofs.names.Awaited.take_off.Goals as goal

-- If the name is the first, the others follow it.
pub returns-in-Some : goal.returns-in-Some
returns-in-Some c =
    let behind : List ℕ = drop c.self.inside.gone c.self.inside.later.items in
    let whole : c.args.self.now.items ≡ c.in-Some.first ∷ behind = ap (λ (v : NamesSeen). v.items) (sym c.self.view_is) ∙ ap (λ (o : Option ℕ). option_to_list o ++ behind) c.in-Some.is in
    one_off c.args.name 0 (c.in-Some.first ∷ behind) (subst (λ (l : List ℕ). is_distinct l ≡ true) whole c.requires) (omega arith) c.if-first-name.true ∙ ap (others c.args.name) (sym whole)
