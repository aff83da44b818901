-- The codes still match the keeper's view.
use Rattle.std.proofs.Common.{◌≡◌, ◌≢◌, ℕ, zero, suc, ◌+◌, ◌<◌, Bool, true, false, not, cond, List, [], length, Option, Some, None, sym, refl, ap, ◌∙◌, ⊎_elim, subst, arith, length-set, get_or, get_or-set_same, get_or-set_other}
use Rattle.std.proofs.lemmas.List.{length-replicate, get_or-replicate}
use Rattle.std.specs.Prelude.{◌&&◌, ◌==◌, slice_get, option_map, IfSome}
use Rattle.std.proofs.lemmas.Bool.{false≢true, not-true, and_parts, and_cases, eqb-true, eqb-false, eq-eqb, ne_eqb}
use mathlib.Core.Logic.{dite}
use native.Mathlib.Decide.{ℕ_discrete}
use Rattle.frames.specs.declared.CodeId.{CodeId}
use Rattle.frames.specs.declared.board_rule.EntryState.{EntryState}
use Rattle.frames.specs.declared.board_rule.EntryState.TheVariants as entry
use Rattle.frames.specs.declared.board_rule.StepMade.{StepMade}
use Rattle.frames.specs.declared.board_rule.StepMade.TheVariants as made
use Rattle.frames.specs.declared.board_rule.SlotView.{SlotView}
use Rattle.frames.specs.declared.board_rule.KeeperView.{KeeperView}
use Rattle.frames.specs.BoardViews.{slot_of, IsIn, with_slot, slot_with_look, in_use, not_entrant, empty_slot, keeper_view}
use Rattle.board.specs.Replaced.{left_by, replaced}
use Rattle.method_table.specs.declared.Code.{Code}
use Rattle.method_table.specs.declared.CodeState.{CodeState}
use Rattle.method_table.specs.declared.CodeState.TheVariants as state
use Rattle.method_table.specs.Numbers.{below}
use Rattle.method_table.specs.Codes.{unfreed, in_use_for, is_taken, takes_slot, with_code, in_state, with_state, without_use, free_slot, next_serial, id_of}
use Rattle.method_table.proofs.Left.{state_is, unfreed_here, slot_left, long_left}
use Rattle.method_table.specs.TableView.{TableView, IsTable, invalidate_fault, retire_fault, free_fault}
use Rattle.board.specs.declared.weighed.Weighed.{Weighed}
use Rattle.board.specs.declared.weighed.Weighed.TheVariants.{NotLooked, Used, Clear}
use Rattle.desk.specs.CodeBoard.{CodesSeen, Weighs, KeeperWeighs, LooksBelow, AreEntries, IsEntry, with_codes, stored}
use Rattle.method_table.specs.Entries.{entry_state, first_of, newest_in}
use Rattle.desk.proofs.Newest.{map_at, push_at, at_low, same_at, found_passes, find_place, any_none_at, newest_push, newest_with, newest_place, in_state_slot}

-- the view of a slot after a step on a slot
pub slot_here : (k : KeeperView) (i : ℕ) (s : SlotView) (made : StepMade) → i < length k.slots → slot_of (with_slot k i s made) i ≡ s
slot_here k i s made low = get_or-set_same k.slots i s empty_slot low

pub slot_there : (k : KeeperView) (i j : ℕ) (s : SlotView) (made : StepMade) → j ≢ i → slot_of (with_slot k i s made) j ≡ slot_of k j
slot_there k i j s made ne = get_or-set_other k.slots i j s empty_slot ne

-- an unfreed code by its serial
pub unfreed_parts : (codes : List Code) (serial : ℕ) (code : Code) → unfreed codes serial ≡ Some code → (i : ℕ) × (slice_get codes i ≡ Some code) × (code.serial ≡ serial) × (takes_slot code.state ≡ true)
unfreed_parts codes serial code is =
    let p = find_place (λ (c : Code). (c.serial == serial) && takes_slot c.state) codes code is in
    let t = and_parts (code.serial == serial) (takes_slot code.state) (found_passes (λ (c : Code). (c.serial == serial) && takes_slot c.state) codes code is) in
    (p.0, p.1, eqb-true code.serial serial t.0, t.1)

-- the keeper knows an unfreed code
pub stands : (t : TableView) (k : KeeperView) (serial : ℕ) (code : Code) → AreEntries t k → IsTable t → unfreed t.codes serial ≡ Some code
    → (code.slot < t.slots) × (code.serial ≡ serial) × ((slot_of k code.slot).serial ≡ code.serial) × ((slot_of k code.slot).state ≡ entry_state code.state)
stands t k serial code are table is =
    let u = unfreed_parts t.codes serial code is in
    let low = table.in_slots serial code is in
    let e : IsEntry (Some code) (slot_of k code.slot) = subst (λ o. IsEntry o (slot_of k code.slot)) (are.newest u.0 code u.1 u.3) (are.entries code.slot low) in
    (low, u.2, e.0, e.1)

-- a free slot is vacant, with a lesser serial
pub free_is : (t : TableView) (slot : ℕ) → free_slot t.codes t.slots ≡ Some slot → (n : ℕ) (a : Code) → slice_get t.codes n ≡ Some a → a.slot ≡ slot → takes_slot a.state ≡ false
free_is t slot free n a x e =
    ⊎_elim (λ d. absurd (eqb-false a.slot slot d e)) (λ d. d)
    (and_cases (a.slot == slot) (takes_slot a.state)
    (any_none_at (λ (c : Code). (c.slot == slot) && takes_slot c.state) t.codes n a (not-true (is_taken t.codes slot) (found_passes (λ s. not (is_taken t.codes s)) (below t.slots) slot free)) x))

freed_vacant : (s : CodeState) → takes_slot s ≡ false → entry_state s ≡ entry.Vacant
freed_vacant state.InUse h = absurd (false≢true (sym h))
freed_vacant state.NotEntrant h = absurd (false≢true (sym h))
freed_vacant state.Zombie h = absurd (false≢true (sym h))
freed_vacant state.Freed h = refl

pub vacant_at : (t : TableView) (k : KeeperView) (slot : ℕ) → AreEntries t k → IsTable t → free_slot t.codes t.slots ≡ Some slot → slot < t.slots
    → ((slot_of k slot).state ≡ entry.Vacant) × ((slot_of k slot).serial < next_serial t.codes)
vacant_at t k slot are table free low = by (newest_in t.codes slot) refl (are.entries slot low)
  where
    by : (o : Option Code) → newest_in t.codes slot ≡ o → IsEntry o (slot_of k slot) → ((slot_of k slot).state ≡ entry.Vacant) × ((slot_of k slot).serial < next_serial t.codes)
    by None e h = (h.1, (let a = h.0 in omega arith))
    by (Some c) e h =
        let p = newest_place t.codes slot c e in
        let s = table.serials p.0 c p.1 in let l = at_low t.codes p.0 c p.1 in
        (h.1 ∙ freed_vacant c.state (free_is t slot free p.0 c p.1 p.2), (let a = h.0 in omega arith))

-- no code is installed
pub none_yet : (t : TableView) (k : KeeperView) (slots split : ℕ) → t.codes ≡ [] → t.slots ≡ slots → k ≡ keeper_view slots split → AreEntries t k
none_yet t k slots split no_code size is = record {
  sizes = ap (λ (v : KeeperView). length v.slots) is ∙ (length-replicate slots empty_slot ∙ sym size);
  entries = λ slot low. subst (λ cs. IsEntry (newest_in cs slot) (slot_of k slot)) (sym no_code)
      (let e : slot_of k slot ≡ empty_slot = ap (λ (v : KeeperView). slot_of v slot) is ∙ get_or-replicate slots slot empty_slot empty_slot (omega arith) in (ap (λ (s : SlotView). s.serial) e, ap (λ (s : SlotView). s.state) e));
  newest = λ i c x. absurd (nothing i c (subst (λ cs. slice_get cs i ≡ Some c) no_code x));
}
  where
    none : List Code
    none = []

    nothing : (i : ℕ) (c : Code) → slice_get none i ≡ Some c → ⊥
    nothing i c h = cc

-- a code is installed
installed : (t t' : TableView) (k k' : KeeperView) (method slot : ℕ) (id : CodeId) (made : StepMade) → AreEntries t k → free_slot t.codes t.slots ≡ Some slot → slot < t.slots
    → t' ≡ with_codes t (with_code t.codes method slot) → id.slot ≡ slot → id.serial ≡ next_serial t.codes → k' ≡ with_slot k id.slot (in_use id) made → AreEntries t' k'
installed t t' k k' method slot id made are free low is at serial view = subst (λ v. AreEntries v k') (sym is) (subst (AreEntries (with_codes t (with_code t.codes method slot))) (sym view) (record {
  sizes = length-set k.slots id.slot (in_use id) ∙ are.sizes;
  entries = λ j l. entry_at j l (j == slot) refl;
  newest = λ i c x takes. ⊎_elim (λ old. kept i c old takes) (λ last. fresh c last.1) (push_at t.codes _ i c x);
}))
  where
    new : Code
    new = record { serial = next_serial t.codes; slot = slot; method = method; state = state.InUse }

    newest_is : (j : ℕ) → newest_in (with_code t.codes method slot) j ≡ first_of (cond (slot == j) (Some new) None) (newest_in t.codes j)
    newest_is j = newest_push t.codes new j

    same : (j : ℕ) → slot ≡ j → newest_in (with_code t.codes method slot) j ≡ Some new
    same j e = newest_is j ∙ ap (λ b. first_of (cond b (Some new) None) (newest_in t.codes j)) (eq-eqb slot j e)

    other : (j : ℕ) → slot ≢ j → newest_in (with_code t.codes method slot) j ≡ newest_in t.codes j
    other j ne = newest_is j ∙ ap (λ b. first_of (cond b (Some new) None) (newest_in t.codes j)) (ne_eqb slot j ne)

    entry_at : (j : ℕ) → j < t.slots → (b : Bool) → (j == slot) ≡ b → IsEntry (newest_in (with_code t.codes method slot) j) (slot_of (with_slot k id.slot (in_use id) made) j)
    entry_at j l true e =
        let here = eqb-true j slot e in
        let s : slot_of (with_slot k id.slot (in_use id) made) j ≡ in_use id = ap (slot_of (with_slot k id.slot (in_use id) made)) (here ∙ sym at) ∙ slot_here k id.slot (in_use id) made (let z = are.sizes in omega arith) in
        subst (λ o. IsEntry o (slot_of (with_slot k id.slot (in_use id) made) j)) (sym (same j (sym here)))
        (ap (λ (v : SlotView). v.serial) s ∙ serial, ap (λ (v : SlotView). v.state) s)
    entry_at j l false e =
        let ne : slot ≢ j = λ h. eqb-false j slot e (sym h) in
        subst (λ o. IsEntry o (slot_of (with_slot k id.slot (in_use id) made) j)) (sym (other j ne))
        (subst (IsEntry (newest_in t.codes j)) (sym (slot_there k id.slot j (in_use id) made (λ h. ne (sym (h ∙ at))))) (are.entries j l))

    kept : (i : ℕ) (c : Code) → slice_get t.codes i ≡ Some c → takes_slot c.state ≡ true → newest_in (with_code t.codes method slot) c.slot ≡ Some c
    kept i c x takes = other c.slot (λ h. false≢true (sym (free_is t slot free i c x (sym h)) ∙ takes)) ∙ are.newest i c x takes

    fresh : (c : Code) → new ≡ c → newest_in (with_code t.codes method slot) c.slot ≡ Some c
    fresh c e = same c.slot (ap (λ (z : Code). z.slot) e) ∙ ap Some e

-- a code changes its state
pub changed : (t t' : TableView) (k k' : KeeperView) (serial : ℕ) (code : Code) (st : CodeState) (s : SlotView) (made : StepMade) → AreEntries t k → IsTable t → unfreed t.codes serial ≡ Some code
    → t' ≡ with_codes t (with_state t.codes serial st) → k' ≡ with_slot k code.slot s made → s.serial ≡ code.serial → s.state ≡ entry_state st → AreEntries t' k'
changed t t' k k' serial code st s made are table unfreed_is is view serial_is state_is = subst (λ v. AreEntries v k') (sym is) (subst (AreEntries (with_codes t (with_state t.codes serial st))) (sym view) (record {
  sizes = length-set k.slots code.slot s ∙ are.sizes;
  entries = λ j l. entry_at j l (j == code.slot) refl;
  newest = λ i c x takes. (let m = map_at (in_state serial st) t.codes i c x in newest_at i m.0 c m.1 m.2 takes (m.0.serial == serial) refl);
}))
  where
    u : (i : ℕ) × (slice_get t.codes i ≡ Some code) × (code.serial ≡ serial) × (takes_slot code.state ≡ true)
    u = unfreed_parts t.codes serial code unfreed_is

    low : code.slot < t.slots
    low = table.in_slots serial code unfreed_is

    newest_code : newest_in t.codes code.slot ≡ Some code
    newest_code = are.newest u.0 code u.1 u.3

    -- only the code has its serial
    only : (i : ℕ) (x : Code) → slice_get t.codes i ≡ Some x → x.serial ≡ serial → x ≡ code
    only i x h e =
        let a = table.serials i x h in let b = table.serials u.0 code u.1 in let c = u.2 in
        let place : i ≡ u.0 = omega arith in
        same_at t.codes i x code h (subst (λ n. slice_get t.codes n ≡ Some code) (sym place) u.1)

    changed_here : (x : Code) → x.serial ≡ serial → in_state serial st x ≡ record x { state = st }
    changed_here x e = ap (λ b. cond b (record x { state = st }) x) (eq-eqb x.serial serial e)

    changed_there : (x : Code) → x.serial ≢ serial → in_state serial st x ≡ x
    changed_there x ne = ap (λ b. cond b (record x { state = st }) x) (ne_eqb x.serial serial ne)

    entry_at : (j : ℕ) → j < t.slots → (b : Bool) → (j == code.slot) ≡ b → IsEntry (newest_in (with_state t.codes serial st) j) (slot_of (with_slot k code.slot s made) j)
    entry_at j l true e =
        let here = eqb-true j code.slot e in
        let v : slot_of (with_slot k code.slot s made) j ≡ s = ap (slot_of (with_slot k code.slot s made)) here ∙ slot_here k code.slot s made (let z = are.sizes in omega arith) in
        let o : newest_in (with_state t.codes serial st) j ≡ Some (record code { state = st }) =
        newest_with t.codes serial st j ∙ (ap (option_map (in_state serial st)) (ap (newest_in t.codes) here ∙ newest_code) ∙ ap Some (changed_here code u.2)) in
        subst (λ o. IsEntry o (slot_of (with_slot k code.slot s made) j)) (sym o)
        (ap (λ (v : SlotView). v.serial) v ∙ serial_is, ap (λ (v : SlotView). v.state) v ∙ state_is)
    entry_at j l false e =
        let ne : j ≢ code.slot = eqb-false j code.slot e in
        subst (λ o. IsEntry o (slot_of (with_slot k code.slot s made) j)) (sym (newest_with t.codes serial st j ∙ untouched (newest_in t.codes j) refl))
        (subst (IsEntry (newest_in t.codes j)) (sym (slot_there k code.slot j s made ne)) (are.entries j l))
      where
        untouched : (o : Option Code) → newest_in t.codes j ≡ o → option_map (in_state serial st) (newest_in t.codes j) ≡ newest_in t.codes j
        untouched None h = ap (option_map (in_state serial st)) h ∙ sym h
        untouched (Some x) h =
            let p = newest_place t.codes j x h in
            ap (option_map (in_state serial st)) h ∙ (ap Some (changed_there x (λ same. eqb-false j code.slot e (sym p.2 ∙ ap (λ (z : Code). z.slot) (only p.0 x p.1 same)))) ∙ sym h)

    newest_at : (i : ℕ) (x c : Code) → slice_get t.codes i ≡ Some x → in_state serial st x ≡ c → takes_slot c.state ≡ true → (b : Bool) → (x.serial == serial) ≡ b → newest_in (with_state t.codes serial st) c.slot ≡ Some c
    newest_at i x c h m takes true e =
        let same = only i x h (eqb-true x.serial serial e) in
        let slot_is : c.slot ≡ code.slot = ap (λ (z : Code). z.slot) (sym m) ∙ ((in_state_slot serial st x).0 ∙ ap (λ (z : Code). z.slot) same) in
        newest_with t.codes serial st c.slot ∙ (ap (option_map (in_state serial st)) (ap (newest_in t.codes) slot_is ∙ (newest_code ∙ ap Some (sym same))) ∙ ap Some m)
    newest_at i x c h m takes false e =
        let ne = eqb-false x.serial serial e in
        let is_x : c ≡ x = sym m ∙ changed_there x ne in
        let slot_is : c.slot ≡ x.slot = ap (λ (z : Code). z.slot) is_x in
        newest_with t.codes serial st c.slot
        ∙ (ap (option_map (in_state serial st)) (ap (newest_in t.codes) slot_is ∙ are.newest i x h (ap (λ (z : Code). takes_slot z.state) (sym is_x) ∙ takes)) ∙ ap Some m)

-- a step on a slot that leaves its code unchanged
pub noted : (t : TableView) (k k' : KeeperView) (i : ℕ) (s : SlotView) (made : StepMade) → AreEntries t k → i < t.slots → k' ≡ with_slot k i s made → s.serial ≡ (slot_of k i).serial → s.state ≡ (slot_of k i).state → AreEntries t k'
noted t k k' i s made are low view serial_is state_is = subst (AreEntries t) (sym view) (record {
  sizes = length-set k.slots i s ∙ are.sizes;
  entries = λ j l. dite (ℕ_discrete j i)
      (λ e. is_entry (newest_in t.codes j) (slot_of k j) (slot_of (with_slot k i s made) j) (are.entries j l)
      (let v = at j e in ap (λ (z : SlotView). z.serial) v ∙ (serial_is ∙ ap (λ n. (slot_of k n).serial) (sym e)))
      (let v = at j e in ap (λ (z : SlotView). z.state) v ∙ (state_is ∙ ap (λ n. (slot_of k n).state) (sym e))))
      (λ ne. subst (IsEntry (newest_in t.codes j)) (sym (slot_there k i j s made ne)) (are.entries j l));
  newest = are.newest;
})
  where
    at : (j : ℕ) → j ≡ i → slot_of (with_slot k i s made) j ≡ s
    at j e = ap (slot_of (with_slot k i s made)) e ∙ slot_here k i s made (let z = are.sizes in omega arith)

    is_entry : (o : Option Code) (a b : SlotView) → IsEntry o a → b.serial ≡ a.serial → b.state ≡ a.state → IsEntry o b
    is_entry None a b h p q = (p ∙ h.0, q ∙ h.1)
    is_entry (Some c) a b h p q = (p ∙ h.0, q ∙ h.1)

-- an accepted call determines the state of its code
pub may_invalidate : (c : Code) → invalidate_fault (Some c) ≡ None → entry_state c.state ≡ entry.InUse
may_invalidate c h = by c.state h
  where
    by : (s : CodeState) → invalidate_fault (Some (record c { state = s })) ≡ None → entry_state s ≡ entry.InUse
    by state.InUse h = refl
    by state.NotEntrant h = cc
    by state.Zombie h = cc
    by state.Freed h = cc

pub may_retire : (c : Code) → retire_fault (Some c) ≡ None → entry_state c.state ≡ entry.NotEntrant
may_retire c h = by c.state h
  where
    by : (s : CodeState) → retire_fault (Some (record c { state = s })) ≡ None → entry_state s ≡ entry.NotEntrant
    by state.InUse h = cc
    by state.NotEntrant h = refl
    by state.Zombie h = cc
    by state.Freed h = cc

pub may_free : (c : Code) → free_fault (Some c) ≡ None → entry_state c.state ≡ entry.Zombie
may_free c h = by c.state h
  where
    by : (s : CodeState) → free_fault (Some (record c { state = s })) ≡ None → entry_state s ≡ entry.Zombie
    by state.InUse h = cc
    by state.NotEntrant h = cc
    by state.Zombie h = refl
    by state.Freed h = cc

-- the keeper knows that state of the code
pub is_in : (t : TableView) (k : KeeperView) (serial : ℕ) (code : Code) (e : EntryState) → AreEntries t k → IsTable t → unfreed t.codes serial ≡ Some code → entry_state code.state ≡ e → (code.slot < t.slots) × IsIn k (id_of code) e
is_in t k serial code e are table is at = let s = stands t k serial code are table is in (s.0, (s.2, s.3 ∙ at))

-- the keeper looked at all places below one
pub looked_below : (t : TableView) (id : CodeId) (places : ℕ) (k k' : KeeperView) → AreEntries t k → id.slot < t.slots → LooksBelow id places k k' → AreEntries t k'
looked_below t id zero k k' are low is = subst (AreEntries t) (sym is) are
looked_below t id (suc p) k k' are low h = noted t h.0 k' id.slot (slot_with_look (slot_of h.0 id.slot) p h.2) (made.LoadPlace id p h.2) (looked_below t id p k h.0 are low h.1) low h.3 refl refl

-- only the moment changes
pub went_on : (t : TableView) (k k' : KeeperView) → AreEntries t k → k'.slots ≡ k.slots → AreEntries t k'
went_on t k k' are same = record {
  sizes = ap (λ (l : List SlotView). length l) same ∙ are.sizes;
  entries = λ j l. subst (IsEntry (newest_in t.codes j)) (ap (λ (l : List SlotView). get_or l j empty_slot) (sym same)) (are.entries j l);
  newest = are.newest;
}

-- the keeper's view after a weighing
pub keeper_weighs : (places serial : ℕ) (id : CodeId) (old new : CodesSeen) (said : Weighed) → Weighs places serial id old new said → KeeperWeighs places id old.keeper new.keeper said
keeper_weighs places serial id old new (NotLooked p) w = w.0
keeper_weighs places serial id old new (Used n) w = w.0
keeper_weighs places serial id old new Clear w = (w.0, w.1, w.2)

-- Two equal options have equal names.
same_id : (a : CodeId) (c : Code) → ◌≡◌ {A = Option CodeId} (Some a) (Some (id_of c)) → a ≡ id_of c
same_id a c e = cc

-- The entry of the replaced code is in use.
pub replaced_in : (t : TableView) (k : KeeperView) (method : ℕ) (r : Option CodeId) → AreEntries t k → IsTable t → r ≡ option_map id_of (in_use_for t.codes method) → IfSome r (λ old. (old.slot < t.slots) × IsIn k old entry.InUse)
replaced_in t k method r are table is = by (in_use_for t.codes method) refl r is
  where
    by : (o : Option Code) → in_use_for t.codes method ≡ o → (r : Option CodeId) → r ≡ option_map id_of o → IfSome r (λ old. (old.slot < t.slots) × IsIn k old entry.InUse)
    by o e None same = tt
    by None e (Some a) same = let no : ◌≡◌ {A = Option CodeId} (Some a) None = same in cc
    by (Some c) e (Some a) same =
        let u = unfreed_here t table method c e in
        let state_in : entry_state c.state ≡ entry.InUse = may_invalidate c (let used = state_is t table method c e in rw used refl) in
        subst (λ (d : CodeId). (d.slot < t.slots) × IsIn k d entry.InUse) (sym (same_id a c same)) (is_in t k c.serial c entry.InUse are table u state_in)

-- The codes match the keeper's view after an install, whatever it replaces.
pub installed_over : (t t' : TableView) (k k' : KeeperView) (method slot : ℕ) (id : CodeId) (r : Option CodeId) → AreEntries t k → IsTable t → free_slot t.codes t.slots ≡ Some slot → slot < t.slots → r ≡ option_map id_of (in_use_for t.codes method)
    → t' ≡ with_codes t (with_code (without_use t.codes (in_use_for t.codes method)) method slot) → id.slot ≡ slot → id.serial ≡ next_serial t.codes → k' ≡ stored r k id → AreEntries t' k'
installed_over t t' k k' method slot id r are table free low is next at serial view = by (in_use_for t.codes method) refl r is next view
  where
    by : (o : Option Code) → in_use_for t.codes method ≡ o → (r : Option CodeId) → r ≡ option_map id_of o → t' ≡ with_codes t (with_code (without_use t.codes o) method slot) → k' ≡ stored r k id → AreEntries t' k'
    by None e None same next view = installed t t' k k' method slot id _ are free low next at serial view
    by None e (Some a) same next view = let no : ◌≡◌ {A = Option CodeId} (Some a) None = same in cc
    by (Some c) e None same next view = let no : ◌≡◌ {A = Option CodeId} None (Some (id_of c)) = same in cc
    by (Some c) e (Some a) same next view =
        let left = changed t (with_codes t (with_state t.codes c.serial state.NotEntrant)) k (left_by k (id_of c)) c.serial c state.NotEntrant (not_entrant (id_of c) k.moment) _ are table (unfreed_here t table method c e) refl refl refl refl in
        installed (with_codes t (with_state t.codes c.serial state.NotEntrant)) t' (left_by k (id_of c)) k' method slot id _ left (slot_left t table method c e ∙ free) low next at
        (serial ∙ ap (λ n. n + 1) (sym (long_left t table method c e))) (view ∙ ap (λ (d : CodeId). replaced k d id) (same_id a c same))
