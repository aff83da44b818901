use Rattle.std.proofs.Common.{◌≡◌, ◌∙◌, sym, ap, true, false, Some, refl, rules}
use Rattle.std.specs.Prelude.{slice_get, length, ◌==◌}
use Rattle.std.specs.List.{list_any}
use Rattle.operations.specs.Names.{is_empty}
use Rattle.system.specs.Kept.Tells.{is_named_at, may_tell_any}
use Rattle.system.proofs.AskedOfThread.{empty_length}
use Rattle.system.proofs.Telling.{tell_nothing, tell_not_of, gone_nobody, tell_does}
use Rattle.system.proofs.keeping.Core.tell.Goals as goal

pub returns-then-is_empty : goal.returns-then-is_empty
returns-then-is_empty c =
    let none : is_empty c.args.self.now.requests.opens ≡ true = sym (empty_length c.args.self.now.requests.opens) ∙ (ap (λ xs. length xs == 0) (sym c.as_slice-operations.ensures) ∙ (sym c.is_empty.ensures ∙ c.if-is_empty.true)) in
    tell_nothing c.args.self.now c.args.name none

pub returns-then-may_tell_any : goal.returns-then-may_tell_any
returns-then-may_tell_any c =
    let some : is_empty c.args.self.now.requests.opens ≡ false = sym (empty_length c.args.self.now.requests.opens) ∙ (ap (λ xs. length xs == 0) (sym c.as_slice-operations.ensures) ∙ (sym c.is_empty.ensures ∙ c.if-is_empty.false)) in
    let may : may_tell_any c.args.self.now.names c.args.self.now.requests.opens c.args.name ≡ true = ap (λ xs. may_tell_any c.args.self.now.names xs c.args.name) (sym c.as_slice-operations.ensures) ∙ (sym c.may_tell_any.ensures ∙ c.if-may_tell_any.true) in
    let none : list_any (is_named_at c.args.name) c.args.self.now.places.items ≡ false = search rules in
    gone_nobody c.args.self.now c.args.name some may none

pub returns-else-may_tell_any : goal.returns-else-may_tell_any
returns-else-may_tell_any c =
    let some : is_empty c.args.self.now.requests.opens ≡ false = sym (empty_length c.args.self.now.requests.opens) ∙ (ap (λ xs. length xs == 0) (sym c.as_slice-operations.ensures) ∙ (sym c.is_empty.ensures ∙ c.if-is_empty.false)) in
    let may : may_tell_any c.args.self.now.names c.args.self.now.requests.opens c.args.name ≡ false = ap (λ xs. may_tell_any c.args.self.now.names xs c.args.name) (sym c.as_slice-operations.ensures) ∙ (sym c.may_tell_any.ensures ∙ c.if-may_tell_any.false) in
    tell_not_of c.args.self.now c.args.name some may

pub returns : goal.returns
returns c =
    let some : is_empty c.args.self.now.requests.opens ≡ false = sym (empty_length c.args.self.now.requests.opens) ∙ (ap (λ xs. length xs == 0) (sym c.as_slice-operations.ensures) ∙ (sym c.is_empty.ensures ∙ c.if-is_empty.false)) in
    let k = c.in-Some.ensures.some in
    let there : slice_get c.args.self.now.places.items c.in-Some.place ≡ Some (Some k.0) = search rules in
    let told = rw c.as_slice-operations.ensures at (c.tell_at.ensures k.0 there) in
    rw told.0 (tell_does c.args.self.now _ c.args.name c.in-Some.place k.0 some there k.2 (record { table = refl; records = refl; index = refl; names = refl; moment = refl; requests = refl }) told.1)
