-- The slot is the least free one, and the method's entry is its code in use.
use Rattle.std.proofs.Common.{◌≡◌, ◌<◌, List, Some, ap, ◌∙◌, refl, length, length-set}
use Rattle.std.proofs.lemmas.Option.{slice_get_read}
use Rattle.method_table.specs.declared.Code.{Code}
use Rattle.method_table.specs.Codes.{free_slot, in_use_for, with_code, without_use}
use Rattle.method_table.specs.Kept.{least_free}
use Rattle.method_table.specs.TableView.{TableView, install_fault}
use Rattle.method_table.proofs.KeptLemmas.{free_is, slot_next, found_free, forgotten, unnoted, is_method, below_last, current_is, table_is}
use Rattle.method_table.proofs.Replaced.{codes_without, replaced_at, old_within}
use Rattle.method_table.proofs.table.MethodTable.install.Goals as goal

pub returns-in-Err-clause-sound : goal.returns-in-Err-clause-sound
returns-in-Err-clause-sound c = rw (← c.self.view_is) (table_is _ _ _ _ _ _ _ c.self.invariant)

pub invariant_of-self : goal.invariant_of-self
invariant_of-self c = unnoted _ _ _ _ _ _ _ c.self.invariant _ c.in_default.ensures.err

pub returns-in_default-clause-sound : goal.returns-in_default-clause-sound
returns-in_default-clause-sound c = table_is _ _ _ _ _ _ _ (invariant_of-self c)

pub put-requires : goal.put-requires
put-requires c =
    let free : least_free c.self.inside.records.items c.self.inside.slots ≡ Some c.in-Ok.slot = free_is _ _ _ _ _ _ _ c.self.invariant ∙ (ap (λ (v : TableView). free_slot v.codes v.slots) c.self.view_is ∙ c.in-Ok.ensures.slot) in
    slot_next _ _ _ _ _ _ _ c.self.invariant c.in-Ok.slot free

pub invariant_of-self-in_default-put : goal.invariant_of-self-in_default-put
invariant_of-self-in_default-put c =
    forgotten _ _ _ _ _ _ _ c.self.invariant _ _ _ c.self.inside.next c.in-Ok.slot c.self.invariant.next_is c.in_default-put.ensures.err c.in-Ok-note.ensures.ok c.forget.ensures

pub returns-in_default-put-clause-sound : goal.returns-in_default-put-clause-sound
returns-in_default-put-clause-sound c = table_is _ _ _ _ _ _ _ (invariant_of-self-in_default-put c)

pub replace-requires : goal.replace-requires
replace-requires c =
    let free : least_free c.self.inside.records.items c.self.inside.slots ≡ Some c.in-Ok.slot = free_is _ _ _ _ _ _ _ c.self.invariant ∙ (ap (λ (v : TableView). free_slot v.codes v.slots) c.self.view_is ∙ c.in-Ok.ensures.slot) in
    let accepted = ap (λ (v : TableView). install_fault v c.args.method) c.self.view_is ∙ c.in-Ok.ensures.accepted in
    let within : c.args.method < length c.self.inside.current.items = is_method _ _ _ _ _ _ _ c.self.invariant c.args.method accepted in
    let at_method = slice_get_read c.self.inside.current.items _ c.args.method c.index-replaced.result.now refl within c.index-replaced.ensures in
    old_within _ _ _ _ _ _ _ c.self.invariant c.args.method c.in-Ok.slot free c.index-replaced.result.now at_method c.self.inside.next _ c.in-Ok-put.ensures.ok

pub invariant_of-self-2 : goal.invariant_of-self-2
invariant_of-self-2 c =
    let free : least_free c.self.inside.records.items c.self.inside.slots ≡ Some c.in-Ok.slot = free_is _ _ _ _ _ _ _ c.self.invariant ∙ (ap (λ (v : TableView). free_slot v.codes v.slots) c.self.view_is ∙ c.in-Ok.ensures.slot) in
    let accepted = ap (λ (v : TableView). install_fault v c.args.method) c.self.view_is ∙ c.in-Ok.ensures.accepted in
    let within : c.args.method < length c.self.inside.current.items = is_method _ _ _ _ _ _ _ c.self.invariant c.args.method accepted in
    let at_method = slice_get_read c.self.inside.current.items _ c.args.method c.index-replaced.result.now refl within c.index-replaced.ensures in
    replaced_at _ _ _ _ _ _ _ c.self.invariant c.args.method c.in-Ok.slot free c.index-replaced.result.now at_method c.self.inside.next _ _ _ _ _ _
    (below_last _ _ _ _ _ _ _ c.self.invariant c.args.method accepted) c.self.invariant.next_is c.then-self-inside.ensures c.in-Ok-put.ensures.ok
    c.replace.ensures.codes c.replace.ensures.record c.replace.ensures.none refl c.in-Ok-note.ensures.ok

pub returns-clause-sound : goal.returns-clause-sound
returns-clause-sound c = table_is _ _ _ _ _ _ _ (invariant_of-self-2 c)

pub returns-clause-in_slots : goal.returns-clause-in_slots
returns-clause-in_slots c =
    let free : least_free c.self.inside.records.items c.self.inside.slots ≡ Some c.in-Ok.slot = free_is _ _ _ _ _ _ _ c.self.invariant ∙ (ap (λ (v : TableView). free_slot v.codes v.slots) c.self.view_is ∙ c.in-Ok.ensures.slot) in
    let least = found_free _ _ _ _ _ _ _ c.self.invariant c.in-Ok.slot free in
    rw (← c.self.view_is) least.within

pub returns-clause-replaced : goal.returns-clause-replaced
returns-clause-replaced c =
    let accepted = ap (λ (v : TableView). install_fault v c.args.method) c.self.view_is ∙ c.in-Ok.ensures.accepted in
    let within : c.args.method < length c.self.inside.current.items = is_method _ _ _ _ _ _ _ c.self.invariant c.args.method accepted in
    let at_method = slice_get_read c.self.inside.current.items _ c.args.method c.index-replaced.result.now refl within c.index-replaced.ensures in
    rw (← c.self.view_is) (current_is _ _ _ _ _ _ _ c.self.invariant c.args.method c.index-replaced.result.now at_method)

pub returns-clause-codes : goal.returns-clause-codes
returns-clause-codes c =
    let accepted = ap (λ (v : TableView). install_fault v c.args.method) c.self.view_is ∙ c.in-Ok.ensures.accepted in
    let within : c.args.method < length c.self.inside.current.items = is_method _ _ _ _ _ _ _ c.self.invariant c.args.method accepted in
    let at_method = slice_get_read c.self.inside.current.items _ c.args.method c.index-replaced.result.now refl within c.index-replaced.ensures in
    let codes = codes_without c.self.inside.history.codes c.replace.new.history.codes c.index-replaced.result.now (in_use_for c.self.inside.history.codes c.args.method) _
    (current_is _ _ _ _ _ _ _ c.self.invariant c.args.method c.index-replaced.result.now at_method) c.replace.ensures.codes c.replace.ensures.none in
    let after : c.then-self-inside.result.codes ≡ with_code (without_use c.self.inside.history.codes (in_use_for c.self.inside.history.codes c.args.method)) c.args.method c.in-Ok.slot = c.then-self-inside.ensures ∙ ap (λ (l : List Code). with_code l c.args.method c.in-Ok.slot) codes in
    let methods = length-set c.self.inside.current.items c.args.method (Some (record { slot = c.in-Ok.slot; serial = c.self.inside.next })) in
    rw (← c.self.view_is, after, methods) refl
