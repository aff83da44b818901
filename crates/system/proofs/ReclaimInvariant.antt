-- The invariant of places, codes and log by which no frame of a code outlives the code.
use Rattle.std.proofs.Common.{◌≡◌, ◌≢◌, ◌⊎◌, ℕ, ◌<◌, ◌≤◌, Bool, true, false, cond, List, ◌∷◌, length, Option, Some, None, sym, refl, ap, ◌∙◌, inl, inr, ⊎_elim, subst}
use Rattle.std.specs.Prelude.{not, ◌||◌, ◌&&◌, ◌==◌, slice_get, slice_set, option_map}
use mathlib.Core.Logic.{dite}
use native.Mathlib.Decide.{ℕ_discrete}
use Rattle.frames.specs.declared.CodeId.{CodeId}
use Rattle.method_table.specs.declared.Code.{Code}
use Rattle.method_table.specs.declared.CodeState.{CodeState}
use Rattle.method_table.specs.declared.CodeState.TheVariants.{InUse}
use Rattle.frames.specs.Stack.{act}
use Rattle.method_table.specs.Codes.{id_of, is_in_use, code_of, in_state, with_state, with_code, next_serial}
use Rattle.system.specs.Threads.{Thread, is_publishing, part}
use Rattle.system.specs.Log.{Entry, is_invalidate, is_begin, is_end, is_look, says_clear, is_looked, in_order, has_started, is_published_since}
use Rattle.system.specs.Facts.{may_stand, IsLive}
use Rattle.system.specs.Moments.{invalidated, begun, ended, starts, is_exit, enters_code, is_fresh}
use Rattle.system.proofs.Lists.{find_push, find_push_none}
use Rattle.system.proofs.Table.{code_serial, code_with_state, in_state_id, in_state_here, in_state_other}
use Rattle.system.proofs.Seats.{Each, each_other, get_set_same, get_set_other}
use Rattle.system.proofs.Moments.{begun_at, ended_at, since_step, from_begin}

-- A thread at a place.
pub record IsThread (codes : List Code) (log : List Entry) (p : ℕ) (t : Thread) : Type 0 where
  -- Codes on the thread's stack and in its counts may have frames.
  pub live : (c : CodeId) → 0 < act c t.stack → IsLive codes c
  pub counted : (c : CodeId) → 0 < part c t → IsLive codes c
  -- A code has at most as many frames as in the shown stack, or was entered since.
  pub held : (c : CodeId) → (act c t.stack ≤ act c t.shown) ⊎ (is_fresh p c.serial log ≡ true)
  -- A place isn't covered for a code entered since the last publication, and has no Clear look for it.
  pub uncovered : (s : ℕ) → is_fresh p s log ≡ true → is_published_since log s p t.name ≡ false
  pub unlooked : (s : ℕ) → is_fresh p s log ≡ true → is_looked log s p ≡ false
  pub published : (s : ℕ) → is_fresh p s log ≡ true → t.published ≡ true
  -- The open publication and the last ended one have moments. The log has the thread's Start.
  pub opened : is_publishing t ≡ true → 0 < begun_at p t.name log
  pub closed : t.published ≡ true → 0 < ended_at p t.name log
  pub started : has_started log t.name ≡ true
  -- These moments count from the last Start at the place.
  pub begun_is : begun_at p t.name log ≡ begun p log
  pub ended_is : ended_at p t.name log ≡ ended p log

-- The code is given out and not in use.
abbrev pub is_unused : Option Code → Bool
is_unused None = false
is_unused (Some code) = not (is_in_use code.state)

-- The codes.
pub record IsTable (codes : List Code) (log : List Entry) : Type 0 where
  -- The codes out of use are those that were invalidated. Only such codes have looks.
  pub invalidated_is : (s : ℕ) → invalidated s log ≡ is_unused (code_of codes s)
  pub looked_by : (s p : ℕ) → is_looked log s p ≡ true → invalidated s log ≡ true

pub record IsReclaimed (places : List (Option Thread)) (codes : List Code) (log : List Entry) : Type 0 where
  pub seats : Each (IsThread codes log) places
  -- No code is fresh at a vacant place.
  pub vacant : (p s : ℕ) → slice_get places p ≡ Some None → is_fresh p s log ≡ false
  pub table : IsTable codes log

-- An entry that changes nothing at the place.
pub record Silent (p : ℕ) (e : Entry) : Type 0 where
  pub starts_not : starts p e.event e.answer ≡ false
  pub exits_not : is_exit p e.event ≡ false
  pub begins_not : is_begin p e.event ≡ false
  pub ends_not : is_end p e.event ≡ false
  pub enters_not : (s : ℕ) → enters_code p s e.event e.answer ≡ false
  pub clears_not : (s : ℕ) → (is_look s p e.event && says_clear e.answer) ≡ false

pub silent_fresh : (p s : ℕ) (e : Entry) (log : List Entry) → Silent p e → is_fresh p s (e ∷ log) ≡ is_fresh p s log
silent_fresh p s e log h = let a = h.starts_not in let b = h.exits_not in let c = h.ends_not in let d = h.enters_not s in rw (a, b, c, d) refl

pub silent_since : (p s name : ℕ) (e : Entry) (log : List Entry) → Silent p e → is_published_since (e ∷ log) s p name ≡ is_published_since log s p name
silent_since p s name e log h = since_step s p name e log ∙ ap (λ b. cond b (in_order (from_begin s p name) log) (is_published_since log s p name)) h.ends_not

pub silent_looked : (p s : ℕ) (e : Entry) (log : List Entry) → Silent p e → is_looked (e ∷ log) s p ≡ is_looked log s p
silent_looked p s e log h = let a = h.clears_not s in rw a refl

pub silent_begun : (p name : ℕ) (e : Entry) (log : List Entry) → Silent p e → begun_at p name (e ∷ log) ≡ begun_at p name log
silent_begun p name e log h = let a = h.begins_not in rw a refl

pub silent_ended : (p name : ℕ) (e : Entry) (log : List Entry) → Silent p e → ended_at p name (e ∷ log) ≡ ended_at p name log
silent_ended p name e log h = let a = h.ends_not in rw a refl

pub silent_begun_place : (p : ℕ) (e : Entry) (log : List Entry) → Silent p e → begun p (e ∷ log) ≡ begun p log
silent_begun_place p e log h = let a = h.starts_not in let b = h.begins_not in rw (a, b) refl

pub silent_ended_place : (p : ℕ) (e : Entry) (log : List Entry) → Silent p e → ended p (e ∷ log) ≡ ended p log
silent_ended_place p e log h = let a = h.starts_not in let b = h.ends_not in rw (a, b) refl

pub or_later : (x y : Bool) → y ≡ true → (x || y) ≡ true
or_later true y h = refl
or_later false y h = h

pub still_started : (e : Entry) (log : List Entry) (name : ℕ) → has_started log name ≡ true → has_started (e ∷ log) name ≡ true
still_started e log name h = or_later _ (has_started log name) h

-- A thread's stack may change at an entry that changes nothing at its place.
pub silent_thread : (codes codes' : List Code) (log : List Entry) (p : ℕ) (t u : Thread) (e : Entry) → Silent p e → IsThread codes log p t
    → ((c : CodeId) → 0 < act c u.stack → IsLive codes' c) → ((c : CodeId) → 0 < part c u → IsLive codes' c) → ((c : CodeId) → (act c u.stack ≤ act c u.shown) ⊎ (is_fresh p c.serial log ≡ true))
    → u.published ≡ t.published → is_publishing u ≡ is_publishing t → u.name ≡ t.name → IsThread codes' (e ∷ log) p u
silent_thread codes codes' log p t u e h i live counted held pub_same open_same name = record {
  live = live;
  counted = counted;
  held = λ c. ⊎_elim (λ a. inl a) (λ b. inr (silent_fresh p c.serial e log h ∙ b)) (held c);
  uncovered = λ s f. silent_since p s u.name e log h ∙ subst (λ n. is_published_since log s p n ≡ false) (sym name) (i.uncovered s (sym (silent_fresh p s e log h) ∙ f));
  unlooked = λ s f. silent_looked p s e log h ∙ i.unlooked s (sym (silent_fresh p s e log h) ∙ f);
  published = λ s f. pub_same ∙ i.published s (sym (silent_fresh p s e log h) ∙ f);
  opened = λ o. subst (λ n. 0 < n) (sym (silent_begun p u.name e log h)) (subst (λ n. 0 < begun_at p n log) (sym name) (i.opened (sym open_same ∙ o)));
  closed = λ o. subst (λ n. 0 < n) (sym (silent_ended p u.name e log h)) (subst (λ n. 0 < ended_at p n log) (sym name) (i.closed (sym pub_same ∙ o)));
  started = still_started e log u.name (subst (λ n. has_started log n ≡ true) (sym name) i.started);
  begun_is = silent_begun p u.name e log h ∙ (subst (λ n. begun_at p n log ≡ begun p log) (sym name) i.begun_is ∙ sym (silent_begun_place p e log h));
  ended_is = silent_ended p u.name e log h ∙ (subst (λ n. ended_at p n log ≡ ended p log) (sym name) i.ended_is ∙ sym (silent_ended_place p e log h));
}

pub silent_seat : (codes codes' : List Code) (log : List Entry) (p : ℕ) (t : Thread) (e : Entry) → Silent p e → IsThread codes log p t
    → ((c : CodeId) → IsLive codes c → (0 < act c t.stack) ⊎ (0 < part c t) → IsLive codes' c) → IsThread codes' (e ∷ log) p t
silent_seat codes codes' log p t e h i live =
    silent_thread codes codes' log p t t e h i (λ c a. live c (i.live c a) (inl a)) (λ c a. live c (i.counted c a) (inr a)) i.held refl refl refl

same_table : (codes : List Code) (log : List Entry) (e : Entry) → IsTable codes log → ((s : ℕ) → is_invalidate s e.event ≡ false) → ((s p : ℕ) → (is_look s p e.event && says_clear e.answer) ≡ false) → IsTable codes (e ∷ log)
same_table codes log e h not_inv not_clear = record {
  invalidated_is = λ s. (let n = not_inv s in rw n refl) ∙ h.invalidated_is s;
  looked_by = λ s p l. (let n = not_inv s in rw n refl) ∙ h.looked_by s p ((let n = not_clear s p in rw n refl) ∙ l);
}

-- An event at the place p.
pub lands : (places : List (Option Thread)) (codes : List Code) (log : List Entry) (p : ℕ) (o : Option Thread) (e : Entry) → IsReclaimed places codes log → p < length places → ((q : ℕ) → q ≢ p → Silent q e)
    → ((s : ℕ) → is_invalidate s e.event ≡ false) → ((s q : ℕ) → (is_look s q e.event && says_clear e.answer) ≡ false)
    → (o ≡ None → (s : ℕ) → is_fresh p s (e ∷ log) ≡ false) → ((t : Thread) → o ≡ Some t → IsThread codes (e ∷ log) p t) → IsReclaimed (slice_set places p o) codes (e ∷ log)
lands places codes log p o e i low silent not_inv not_clear left mine = record {
  vacant = λ q s x. dite (ℕ_discrete q p)
      (λ same. (let is : Some o ≡ Some None = sym (get_set_same places p o low) ∙ subst (λ n. slice_get (slice_set places p o) n ≡ Some None) same x in
      let inner : o ≡ None = cc in subst (λ n. is_fresh n s (e ∷ log) ≡ false) (sym same) (left inner s)))
      (λ ne. silent_fresh q s e log (silent q ne) ∙ i.vacant q s (sym (get_set_other places p q o ne) ∙ x));
  seats = each_other (IsThread codes (e ∷ log)) places p o low (λ q t ne x. silent_seat codes codes log q t e (silent q ne) (i.seats q t x) (λ c l a. l)) mine;
  table = same_table codes log e i.table not_inv not_clear;
}

-- An entry that changes nothing at any place.
abbrev pub IsQuiet : Entry → Type 0
IsQuiet e = (q : ℕ) → Silent q e

pub logged : (places : List (Option Thread)) (codes : List Code) (log : List Entry) (e : Entry) → IsReclaimed places codes log → IsQuiet e → ((s : ℕ) → is_invalidate s e.event ≡ false) → IsReclaimed places codes (e ∷ log)
logged places codes log e i q n = record {
  vacant = λ p s x. silent_fresh p s e log (q p) ∙ i.vacant p s x;
  seats = λ p t x. silent_seat codes codes log p t e (q p) (i.seats p t x) (λ c l a. l);
  table = same_table codes log e i.table n (λ s p. (let h = q p in h.clears_not s));
}

-- Such an entry, which changes a code.
pub recoded : (places : List (Option Thread)) (codes codes' : List Code) (log : List Entry) (e : Entry) → IsReclaimed places codes log → IsQuiet e
    → ((p : ℕ) (t : Thread) → slice_get places p ≡ Some (Some t) → (c : CodeId) → IsLive codes c → (0 < act c t.stack) ⊎ (0 < part c t) → IsLive codes' c)
    → ((s : ℕ) → invalidated s (e ∷ log) ≡ is_unused (code_of codes' s)) → IsReclaimed places codes' (e ∷ log)
recoded places codes codes' log e i q live inv = record {
  vacant = λ p s x. silent_fresh p s e log (q p) ∙ i.vacant p s x;
  seats = λ p t x. silent_seat codes codes' log p t e (q p) (i.seats p t x) (live p t x);
  table = record {
    invalidated_is = inv;
    looked_by = λ s p h. or_later _ (invalidated s log) (i.table.looked_by s p ((let h2 = q p in let a = h2.clears_not s in rw a refl) ∙ h));
  };
}

-- A new code.
pub installed : (places : List (Option Thread)) (codes : List Code) (log : List Entry) (e : Entry) (method slot : ℕ) → IsReclaimed places codes log → IsQuiet e → ((s : ℕ) → is_invalidate s e.event ≡ false)
    → IsReclaimed places (with_code codes method slot) (e ∷ log)
installed places codes log e method slot i q n = recoded places codes (with_code codes method slot) log e i q
    (λ p t x c l a. (l.0, find_push (λ (k : Code). k.serial == c.serial) codes new l.0 l.1, l.2, l.3))
    (λ s. (let m = n s in rw m refl) ∙ (i.table.invalidated_is s ∙ by s (code_of codes s) refl))
  where
    new : Code
    new = record { serial = next_serial codes; slot = slot; method = method; state = InUse }

    by : (s : ℕ) (o : Option Code) → code_of codes s ≡ o → is_unused o ≡ is_unused (code_of (with_code codes method slot) s)
    by s (Some k) h = ap is_unused (sym (find_push (λ (x : Code). x.serial == s) codes new k h))
    by s None h = two (next_serial codes == s) ∙ ap is_unused (sym (find_push_none (λ (x : Code). x.serial == s) codes new h))
      where
        two : (b : Bool) → false ≡ is_unused (cond b (Some (record { serial = next_serial codes; slot = slot; method = method; state = InUse })) None)
        two true = refl
        two false = refl

-- The code k of the serial s changes its state, and no place changes.
pub record Restates (places : List (Option Thread)) (codes : List Code) (log : List Entry) (s : ℕ) (state : CodeState) (k : Code) (e : Entry) : Type 0 where
  pub there : code_of codes s ≡ Some k
  pub quiet : IsQuiet e
  -- A code with frames or counts may have frames in the new state too.
  pub stays : (p : ℕ) (t : Thread) → slice_get places p ≡ Some (Some t) → (c : CodeId) → id_of k ≡ c → (0 < act c t.stack) ⊎ (0 < part c t) → may_stand k.state ≡ true → may_stand state ≡ true
  pub left : invalidated s (e ∷ log) ≡ not (is_in_use state)
  pub others : (r : ℕ) → s ≢ r → is_invalidate r e.event ≡ false

pub restated : (places : List (Option Thread)) (codes : List Code) (log : List Entry) (s : ℕ) (state : CodeState) (k : Code) (e : Entry) → IsReclaimed places codes log → Restates places codes log s state k e
    → IsReclaimed places (with_state codes s state) (e ∷ log)
restated places codes log s state k e i n = recoded places codes (with_state codes s state) log e i n.quiet
    (λ p t x c l a. (
      in_state s state l.0,
      code_with_state codes s state c.serial ∙ ap (option_map (in_state s state)) l.1,
      in_state_id s state l.0 ∙ l.2,
      dite (ℕ_discrete l.0.serial s)
          (λ same. (let at_s : c.serial ≡ s = sym (code_serial codes c.serial l.0 l.1) ∙ same in
          let u : Some l.0 ≡ Some k = sym l.1 ∙ (ap (code_of codes) at_s ∙ n.there) in let j : l.0 ≡ k = cc in
          let stands : may_stand k.state ≡ true = subst (λ (y : Code). may_stand y.state ≡ true) j l.3 in
          let ok : may_stand state ≡ true = n.stays p t x c (ap id_of (sym j) ∙ l.2) a stands in
          ap (λ (y : Code). may_stand y.state) (in_state_here s state l.0 same) ∙ ok))
          (λ ne. ap (λ (y : Code). may_stand y.state) (in_state_other s state l.0 ne) ∙ l.3),
    ))
    (λ r. dite (ℕ_discrete s r)
    (λ same. subst (λ r. invalidated r (e ∷ log) ≡ is_unused (code_of (with_state codes s state) r)) same
    (n.left ∙ (ap (λ (y : Code). not (is_in_use y.state)) (sym (in_state_here s state k (code_serial codes s k n.there))) ∙ ap is_unused (sym (code_with_state codes s state s ∙ ap (option_map (in_state s state)) n.there)))))
    (λ ne. (let a = n.others r ne in rw a refl) ∙ (i.table.invalidated_is r ∙ by r ne (code_of codes r) refl)))
  where
    by : (r : ℕ) → s ≢ r → (o : Option Code) → code_of codes r ≡ o → is_unused o ≡ is_unused (code_of (with_state codes s state) r)
    by r ne None h = ap is_unused (sym (code_with_state codes s state r ∙ ap (option_map (in_state s state)) h))
    by r ne (Some j) h = ap (λ (y : Code). not (is_in_use y.state)) (sym (in_state_other s state j (λ z. ne (sym z ∙ code_serial codes r j h)))) ∙ ap is_unused (sym (code_with_state codes s state r ∙ ap (option_map (in_state s state)) h))
