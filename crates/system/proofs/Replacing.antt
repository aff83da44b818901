-- An Install, also over code in use, which is an Invalidate followed by an Install.
use Rattle.std.proofs.Common.{◌≡◌, ◌∙◌, ◌<◌, ◌≤◌, sym, ap, refl, subst, ℕ, ◌+◌, Option, Some, None, length, arith}
use Rattle.std.specs.Prelude.{slice_set, option_map, IfSome, IfNone}
use Rattle.frames.specs.declared.CodeId.{CodeId}
use Rattle.activation_index.specs.Cells.{cell_of}
use Rattle.method_table.specs.declared.Code.{Code}
use Rattle.method_table.specs.declared.CodeState.TheVariants.{NotEntrant}
use Rattle.method_table.specs.TableView.{TableView, install_fault, invalidate_fault}
use Rattle.method_table.specs.Codes.{id_of, unfreed, in_use_for, free_slot, next_serial, with_code, in_state, with_state, without_use}
use Rattle.system.specs.declared.events.Event.TheVariants as event
use Rattle.system.specs.declared.answers.Answer.TheVariants as answer
use Rattle.system.specs.declared.keeping.Core.{Core}
use Rattle.system.specs.Log.{names_given}
use Rattle.system.specs.World.{World}
use Rattle.system.specs.Facts.{TableIsSound, ThreadsAreSound, IsSound}
use Rattle.system.specs.Kept.Records.{new_record}
use Rattle.system.specs.Stands.{Matches, DoesIn, Does}
use Rattle.system.proofs.Lists.{map_length}
use Rattle.system.proofs.Table.{table_kept}
use Rattle.system.proofs.Threads.{threads_kept}
use Rattle.system.proofs.CaseOfEvent.{by_cases}
use Rattle.system.proofs.Twice.{found_in_use, free_between, place_of, between, between_is}
use Rattle.system.proofs.CodeEvents.{Recodes, IsOfCodes, accepted_in, coded_matches, installed_cells, installed_records, installs, world_slot, same_some}
use Rattle.system.proofs.ReclaimEvents.{left}

is_install : (method n : ℕ) → IsOfCodes (event.Install method) (answer.Code n)
is_install method n = record { starts_none = refl; asks_none = refl; rounds_none = refl; elsewhere = λ place. record { starts_not = refl; begins_not = refl; ends_not = refl } }

-- The replaced code has a record.
pub replaced_low : (s : Core) (w : World) → IsSound w → Matches s w → (method : ℕ) (replaced : Option CodeId) → replaced ≡ option_map id_of (in_use_for s.table.codes method) → IfSome replaced (λ id. id.slot < length s.records.items)
replaced_low s w sound m method replaced is = by (in_use_for w.codes method) refl replaced (is ∙ ap (λ cs. option_map id_of (in_use_for cs method)) m.codes)
  where
    by : (o : Option Code) → in_use_for w.codes method ≡ o → (r : Option CodeId) → r ≡ option_map id_of o → IfSome r (λ id. id.slot < length s.records.items)
    by o e None same = tt
    by None e (Some id) same = let no : Some id ≡ None = same in cc
    by (Some old) e (Some id) same =
        let q = place_of w method old e in let a = sound.table.slot_low q.0 old q.1 in let b = m.records.lengths in
        let slot_is : id.slot ≡ old.slot = ap (λ (i : CodeId). i.slot) (same_some same) in omega arith

module _ (s t : Core) (method slot serial : ℕ) (allowed : install_fault s.table method ≡ None) (least : free_slot s.table.codes s.table.slots ≡ Some slot) (next : serial ≡ next_serial s.table.codes) (index : t.index ≡ slice_set s.index slot (cell_of serial 0)) where
  -- the method has no code in use
  plain : (w : World) → IsSound w → Matches s w → in_use_for w.codes method ≡ None → Recodes s t (with_code w.codes method slot) → t.records.items ≡ s.records.items → DoesIn (event.Install method) (answer.Code serial) t w
  plain w sound m none k records =
      let serial_is : serial ≡ next_serial w.codes = next ∙ ap next_serial m.codes in
      rw serial_is (accepted_in t w (record w { codes = with_code (without_use w.codes (in_use_for w.codes method)) method slot }) (event.Install method) (answer.Code (next_serial w.codes)) (installs s w method slot m allowed least)
      (rw none (coded_matches s t w (with_code w.codes method slot) (event.Install method) (answer.Code (next_serial w.codes)) k (is_install method (next_serial w.codes)) m
      (rw records (installed_records s.records.items w method slot (answer.Code (next_serial w.codes)) m.records))
      (rw (index, serial_is) (installed_cells s.index w method slot (answer.Code (next_serial w.codes)) sound.table sound.threads (world_slot s w slot m least) m.index)))))

  -- the method has code in use: the system after the Invalidate alone
  module _ (w : World) (sound : IsSound w) (m : Matches s w) (old : Code) (used : in_use_for w.codes method ≡ Some old) (few : length s.places.items ≤ 64)
      (k : Recodes s t (with_code (with_state w.codes old.serial NotEntrant) method slot)) (records : t.records.items ≡ slice_set s.records.items old.slot (new_record s.moment)) where
    abbrev mid : Core
    mid = record t { table = record s.table { codes = with_state s.table.codes old.serial NotEntrant }; index = s.index }

    found : unfreed s.table.codes old.serial ≡ Some old
    found = ap (λ cs. unfreed cs old.serial) m.codes ∙ found_in_use w method old sound.table used

    unfaulted : invalidate_fault (unfreed s.table.codes old.serial) ≡ None
    unfaulted = let q = place_of w method old used in ap invalidate_fault found ∙ (rw q.2 refl)

    low : old.slot < length s.records.items
    low = let q = place_of w method old used in let a = sound.table.slot_low q.0 old q.1 in let b = m.records.lengths in omega arith

    invalidated : Matches mid (between w old)
    invalidated = subst (Matches mid) (between_is w method old sound.table used)
        (((left s mid old.serial old found unfaulted few low (record { table = refl; places = k.places; names = k.names; moment_is = k.moment_is; requests = k.requests }) records refl).each w sound m).matches)

    table : TableIsSound w.slots w.methods (with_state w.codes old.serial NotEntrant)
    table = subst (λ (v : World). TableIsSound v.slots v.methods v.codes) (between_is w method old sound.table used)
        (by_cases w (λ e a v. TableIsSound v.slots v.methods v.codes) (table_kept w sound.table) (event.Invalidate old.serial) tt)

    threads : ThreadsAreSound w.places (with_state w.codes old.serial NotEntrant) (names_given (between w old).log)
    threads = subst (λ (v : World). ThreadsAreSound v.places v.codes (names_given v.log)) (between_is w method old sound.table used)
        (by_cases w (λ e a v. ThreadsAreSound v.places v.codes (names_given v.log)) (threads_kept w sound.threads) (event.Invalidate old.serial) tt)

    long : length (with_state w.codes old.serial NotEntrant) ≡ length w.codes
    long = map_length (in_state old.serial NotEntrant) w.codes

    still_free : free_slot (with_state w.codes old.serial NotEntrant) w.slots ≡ Some slot
    still_free = free_between w method old sound.table used ∙ world_slot s w slot m least

    over : DoesIn (event.Install method) (answer.Code serial) t w
    over =
        let serial_is : serial ≡ next_serial w.codes = next ∙ ap next_serial m.codes in
        let serial_then : serial ≡ next_serial (with_state w.codes old.serial NotEntrant) = serial_is ∙ ap (λ n. n + 1) (sym long) in
        rw serial_is (accepted_in t w (record w { codes = with_code (without_use w.codes (in_use_for w.codes method)) method slot }) (event.Install method) (answer.Code (next_serial w.codes)) (installs s w method slot m allowed least)
        (rw used (coded_matches mid t (between w old) (with_code (with_state w.codes old.serial NotEntrant) method slot) (event.Install method) (answer.Code (next_serial w.codes))
        (record { table = k.table; places = refl; names = refl; moment_is = refl; requests = refl }) (is_install method (next_serial w.codes)) invalidated
        (installed_records t.records.items (between w old) method slot (answer.Code (next_serial w.codes)) invalidated.records)
        (rw (index, serial_then) (installed_cells s.index (between w old) method slot (answer.Code (next_serial w.codes)) table threads still_free invalidated.index)))))

  both : (w : World) → IsSound w → Matches s w → length s.places.items ≤ 64 → (o : Option Code) → in_use_for w.codes method ≡ o → (replaced : Option CodeId) → replaced ≡ option_map id_of o → Recodes s t (with_code (without_use w.codes o) method slot)
      → IfSome replaced (λ id. t.records.items ≡ slice_set s.records.items id.slot (new_record s.moment)) → IfNone replaced (t.records.items ≡ s.records.items) → DoesIn (event.Install method) (answer.Code serial) t w
  both w sound m few None is None e k some none = plain w sound m is k none
  both w sound m few (Some old) is (Some id) e k some none =
      over w sound m old is few k (some ∙ ap (λ (i : CodeId). slice_set s.records.items i.slot (new_record s.moment)) (same_some e))
  both w sound m few None is (Some id) e k some none = let no : Some id ≡ None = e in cc
  both w sound m few (Some old) is None e k some none = let no : None ≡ Some (id_of old) = e in cc

  -- An Install.
  pub installed : (replaced : Option CodeId) → replaced ≡ option_map id_of (in_use_for s.table.codes method) → length s.places.items ≤ 64
      → Recodes s t (with_code (without_use s.table.codes (in_use_for s.table.codes method)) method slot)
      → IfSome replaced (λ id. t.records.items ≡ slice_set s.records.items id.slot (new_record s.moment)) → IfNone replaced (t.records.items ≡ s.records.items) → Does (event.Install method) s (answer.Code serial) t
  installed replaced is few k some none = record {
    each = λ w sound m. both w sound m few (in_use_for w.codes method) refl replaced (is ∙ ap (λ cs. option_map id_of (in_use_for cs method)) m.codes)
        (subst (λ cs. Recodes s t (with_code (without_use cs (in_use_for cs method)) method slot)) m.codes k) some none;
    sizes = record { places = ap (λ v. length v.items) k.places; slots = ap (λ (x : TableView). x.slots) k.table; methods = ap (λ (x : TableView). x.methods) k.table };
  }
