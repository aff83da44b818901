use Rattle.std.proofs.Common.{◌≡◌, ◌∙◌, sym, ap, true, false, Some, refl, rules}
use Rattle.std.specs.Prelude.{slice_get, get_or, length, ◌==◌}
use Rattle.std.specs.List.{list_any}
use Rattle.operations.specs.Names.{is_empty}
use Rattle.system.specs.Kept.Opening.{place_of}
use Rattle.system.specs.Kept.Tells.{is_held_for, is_over_at}
use Rattle.system.proofs.AskedOfThread.{empty_length}
use Rattle.system.proofs.Closing.{close_nothing, close_not_of, found_there, close_held, close_early, closed_does}
use Rattle.system.proofs.keeping.Core.close.Goals as goal

pub returns-then-is_empty : goal.returns-then-is_empty
returns-then-is_empty c =
    let none : is_empty c.args.self.now.requests.opens ≡ true = sym (empty_length c.args.self.now.requests.opens) ∙ (ap (λ xs. length xs == 0) (sym c.as_slice-operations.ensures) ∙ (sym c.is_empty.ensures ∙ c.if-is_empty.true)) in
    close_nothing c.args.self.now c.args.number none

pub returns-in_default : goal.returns-in_default
returns-in_default c =
    let some : is_empty c.args.self.now.requests.opens ≡ false = sym (empty_length c.args.self.now.requests.opens) ∙ (ap (λ xs. length xs == 0) (sym c.as_slice-operations.ensures) ∙ (sym c.is_empty.ensures ∙ c.if-is_empty.false)) in
    close_not_of c.args.self.now c.args.number some (sym c.place_of.ensures ∙ c.in_default.is)

pub returns-then-is_any_held : goal.returns-then-is_any_held
returns-then-is_any_held c =
    let some : is_empty c.args.self.now.requests.opens ≡ false = sym (empty_length c.args.self.now.requests.opens) ∙ (ap (λ xs. length xs == 0) (sym c.as_slice-operations.ensures) ∙ (sym c.is_empty.ensures ∙ c.if-is_empty.false)) in
    let place : place_of c.args.number c.args.self.now.requests.opens ≡ Some c.in-Some.at = sym c.place_of.ensures ∙ c.in-Some.is in
    let there : slice_get c.args.self.now.requests.opens c.in-Some.at ≡ Some c.index-operations-at.result =
    found_there c.args.number c.args.self.now.requests.opens c.in-Some.at c.index-operations-at.result some place (c.index-operations-at.is ∙ ap (λ xs. get_or xs c.in-Some.at c.index-operations-at.result) c.as_slice-operations.ensures) in
    let held : list_any (is_held_for c.index-operations-at.result) c.args.self.now.places.items ≡ true = search rules in
    close_held c.args.self.now c.args.number c.in-Some.at c.index-operations-at.result some place there held

pub returns-then-not-is_over : goal.returns-then-not-is_over
returns-then-not-is_over c =
    let some : is_empty c.args.self.now.requests.opens ≡ false = sym (empty_length c.args.self.now.requests.opens) ∙ (ap (λ xs. length xs == 0) (sym c.as_slice-operations.ensures) ∙ (sym c.is_empty.ensures ∙ c.if-is_empty.false)) in
    let place : place_of c.args.number c.args.self.now.requests.opens ≡ Some c.in-Some.at = sym c.place_of.ensures ∙ c.in-Some.is in
    let there : slice_get c.args.self.now.requests.opens c.in-Some.at ≡ Some c.index-operations-at.result =
    found_there c.args.number c.args.self.now.requests.opens c.in-Some.at c.index-operations-at.result some place (c.index-operations-at.is ∙ ap (λ xs. get_or xs c.in-Some.at c.index-operations-at.result) c.as_slice-operations.ensures) in
    let free : list_any (is_held_for c.index-operations-at.result) c.args.self.now.places.items ≡ false = search rules in
    let early : is_over_at c.index-operations-at.result c.args.self.now.places.items ≡ false = search rules in
    close_early c.args.self.now c.args.number c.in-Some.at c.index-operations-at.result some place there free early

pub returns : goal.returns
returns c =
    let some : is_empty c.args.self.now.requests.opens ≡ false = sym (empty_length c.args.self.now.requests.opens) ∙ (ap (λ xs. length xs == 0) (sym c.as_slice-operations.ensures) ∙ (sym c.is_empty.ensures ∙ c.if-is_empty.false)) in
    let place : place_of c.args.number c.args.self.now.requests.opens ≡ Some c.in-Some.at = sym c.place_of.ensures ∙ c.in-Some.is in
    let there : slice_get c.args.self.now.requests.opens c.in-Some.at ≡ Some c.index-operations-at.result =
    found_there c.args.number c.args.self.now.requests.opens c.in-Some.at c.index-operations-at.result some place (c.index-operations-at.is ∙ ap (λ xs. get_or xs c.in-Some.at c.index-operations-at.result) c.as_slice-operations.ensures) in
    let free : list_any (is_held_for c.index-operations-at.result) c.args.self.now.places.items ≡ false = search rules in
    let over : is_over_at c.index-operations-at.result c.args.self.now.places.items ≡ true = search rules in
    closed_does c.args.self.now _ c.args.number c.in-Some.at c.index-operations-at.result some place there free over (record { table = refl; places = refl; records = refl; index = refl; names = refl; moment_is = refl }) refl refl c.take.ensures
