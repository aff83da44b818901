-- A change of the open publication moves the count of one code.
use Rattle.std.proofs.Common.{◌≡◌, ◌≢◌, ◌∙◌, ◌+◌, ◌<◌, ◌≤◌, sym, ap, ap₂, refl, subst, ℕ, zero, suc, Bool, true, false, not, ◌||◌, eqb, cond, List, [], ◌∷◌, Option, Some, None, Result, Ok, Err, length, arith, ℤ, pos, ◌+ℤ◌, ◌-ℤ◌}
use Rattle.std.specs.Prelude.{slice_get, slice_set, sum_by, ◌≤ℤ◌}
use Rattle.std.proofs.lemmas.Int.{ints}
use Rattle.std.proofs.lemmas.Bool.Decides.{nat_tests}
use Rattle.std.proofs.lemmas.List.Sums.{sum_by-cons}
use Rattle.std.proofs.lemmas.Option.{slice_get_within}
use mathlib.Core.Logic.{dite}
use native.Mathlib.Decide.{ℕ_discrete}
use Rattle.frames.specs.declared.CodeId.{CodeId}
use Rattle.frames.specs.declared.Change.{Change as CodeChange}
use Rattle.frames.specs.Stack.{same_code, act, times}
use Rattle.frames.specs.ImageView.{Counts}
use Rattle.thread_state.specs.declared.State.TheVariants.{Vacant}
use Rattle.method_table.specs.declared.Code.{Code}
use Rattle.method_table.specs.Codes.{code_of, id_of, next_serial}
use Rattle.activation_index.specs.declared.Entry.{Entry as Cell}
use Rattle.activation_index.specs.Cells.{count_if, count_at, cell_of}
use Rattle.system.specs.declared.events.Act.TheVariants.{Change}
use Rattle.system.specs.declared.events.Event.TheVariants as event
use Rattle.system.specs.declared.answers.Answer.{Answer}
use Rattle.system.specs.declared.answers.Answer.TheVariants as answer
use Rattle.system.specs.declared.answers.Refusal.{Refusal}
use Rattle.system.specs.declared.answers.Refusal.TheVariants.{NoSuchPlace, Illegal, Publishing, NotBegun}
use Rattle.system.specs.declared.thread.Thread.{Thread as Kept}
use Rattle.system.specs.declared.keeping.Core.{Core}
use Rattle.system.specs.Verdict.{Verdict, accepted, unless◌refuse◌then◌}
use Rattle.system.specs.Log.{names_given}
use Rattle.system.specs.Threads.{Thread, is_publishing, has_changed, next_change, part}
use Rattle.system.specs.World.{World, part_at, walk}
use Rattle.system.specs.Places.{Effect, changes, here}
use Rattle.system.specs.Step.{outcome, with_place}
use Rattle.system.specs.Facts.{IsSound, IsLive, ThreadsAreSound}
use Rattle.system.specs.Marking.{SameThread}
use Rattle.system.specs.Kept.Acts.{DidNext, Counted, said_change}
use Rattle.system.specs.Kept.Places.{DidChange, DidCountAt, CountedAt}
use Rattle.system.specs.Stands.{Matches, SameAt, DoesIn, Does, SameSizes, SameCells, walk_of}
use Rattle.system.proofs.Outcomes.{Stands, seated, changed_by, difference}
use Rattle.system.proofs.Threads.{threads_kept}
use Rattle.system.proofs.Sound.{counts_sound}
use Rattle.system.proofs.Table.{code_serial}
use Rattle.system.proofs.Images.{left_is_new}
use Rattle.system.proofs.Frames.{same_is, same_refl, next_left}
use Rattle.system.proofs.Found.{put_back}
use Rattle.system.proofs.AfterAct.{SameRest, SameOthers, counted_matches, length_set, walk_seat}
use Rattle.system.proofs.ByAct.{became, refused_in, act_quiet, act_elsewhere, timed}
use Rattle.system.proofs.PlainActs.{nowhere, vacant, seat, at_place, accepted_in}
use Rattle.system.proofs.Slots.{takes, two_slots}
use Rattle.system.proofs.Seats.{get_set_same, get_set_other}
use Rattle.system.proofs.Lists.{same_at}

-- an accepted change with its thread and code
pub record WasChanged (s : Core) (w : World) (p slot serial : ℕ) (by : ℤ) (new : List (Option Kept)) : Type 0 where
  pub kept : Kept
  pub after : Kept
  pub t : Thread
  pub code : CodeId
  pub there : slice_get w.places p ≡ Some (Some t)
  pub same : SameAt w p kept t
  pub publishing : is_publishing t ≡ true
  pub next : next_change t ≡ Some code
  pub slot_is : slot ≡ code.slot
  pub serial_is : serial ≡ code.serial
  pub by_is : by ≡ pos (act code t.stack) -ℤ pos (act code t.shown)
  pub thread : SameThread after (changed_by t code)
  pub marks : after.marks ≡ kept.marks
  pub moments : after.moments ≡ kept.moments
  pub places : new ≡ slice_set s.places.items p (Some after)

-- the verdict, by whether the thread publishes and which code is next
abbrev says : Thread → Bool → Option CodeId → Verdict Effect
says t b o =
    unless not b || true refuse Publishing then
    unless true refuse Illegal t.state then
    unless b refuse NotBegun then changes t o

-- the thread's result of a change
abbrev ok : Option CodeChange → Result (Option CodeChange) Refusal
ok change = Ok change

abbrev err : Refusal → Result (Option CodeChange) Refusal
err refusal = Err refusal

never : (change : Option CodeChange) (refusal : Refusal) → ok change ≡ err refusal → ⊥
never change refusal h = cc

same_change : (one other : Option CodeChange) → ok one ≡ ok other → one ≡ other
same_change one other h = cc

same_refusal : (one other : Refusal) → err one ≡ err other → answer.Refused one ≡ answer.Refused other
same_refusal one other h = cc

none_changed : (change : CodeChange) → answer.NoChange ≡ said_change (Some change) → ⊥
none_changed change h = cc

no_change : (code : CodeId) (t : Thread) → difference t code ≡ said_change None → ⊥
no_change code t h = cc

-- the next code changes, and no other code of the serial
part_self : (t : Thread) (code : CodeId) → part code (changed_by t code) ≡ act code t.stack
part_self t code = ap (λ b. cond (b || has_changed t code) (act code t.stack) (act code t.shown)) (same_refl code)

code_is : (kept after_ : Kept) (t : Thread) (code : CodeId) (change : CodeChange) → SameThread kept t → next_change t ≡ Some code → Counts kept.image after_.image change → SameThread after_ (changed_by t code) → change.code ≡ code
code_is kept after_ t code change same next counts thread = by (same_code code change.code) refl
  where
    by : (b : Bool) → same_code code change.code ≡ b → change.code ≡ code
    by true e = sym (same_is code change.code e)
    by false e =
        let was : part code t ≡ act code t.shown = ap (λ b. cond b (act code t.stack) (act code t.shown)) (left_is_new t code next) in
        let all : act code t.stack ≡ act code t.shown = sym (part_self t code) ∙ (sym (thread.image.counted code) ∙ (counts.others code e ∙ (same.image.counted code ∙ was))) in
        let equal : eqb (act code t.stack) (act code t.shown) ≡ true = grind (arith, nat_tests) in
        let left = rw (left_is_new t code next, equal) at (next_left t code next) in
        let no : false ≡ true = left in cc

pub was_changed : (s : Core) (w : World) (p : ℕ) (change : CodeChange) (new : List (Option Kept)) → Matches s w → DidChange p s.places.items new (Ok (Some change)) → WasChanged s w p change.code.slot change.code.serial change.by new
was_changed s w p change new m did = elim (at_place s w p m) [
  | nowhere e x ↦ (let d = rw e at did in absurd (never (Some change) NoSuchPlace d.0))
  | vacant e x ↦ (let d = rw e at did in absurd (never (Some change) (Illegal Vacant) d.0))
  | seat kept t e x same ↦ (
      let d : CountedAt p kept s.places.items new (Ok (Some change)) = rw e at did in
      by kept d.after t x same d.places (is_publishing t) (next_change t) refl refl (d.did w t same.thread))
]
  where
    by : (kept after_ : Kept) (t : Thread) → slice_get w.places p ≡ Some (Some t) → SameAt w p kept t → new ≡ slice_set s.places.items p (Some after_) → (b : Bool) (o : Option CodeId) → is_publishing t ≡ b → next_change t ≡ o → DidNext (says t b o) kept after_ t (Ok (Some change)) → WasChanged s w p change.code.slot change.code.serial change.by new
    by kept after_ t x same places false o pub_is next_is did = absurd (never (Some change) NotBegun did.0)
    by kept after_ t x same places true None pub_is next_is did = absurd (none_changed change (subst (λ o. answer.NoChange ≡ said_change o) (sym (same_change (Some change) did.0 did.1)) did.2))
    by kept after_ t x same places true (Some code) pub_is next_is did =
        let is : Some change ≡ did.0 = same_change (Some change) did.0 did.1 in
        let said : answer.Changed code.serial (pos (act code t.stack) -ℤ pos (act code t.shown)) ≡ answer.Changed change.code.serial change.by = subst (λ o. difference t code ≡ said_change o) (sym is) did.2 in
        let counted : Counted (Some change) kept after_ = subst (λ o. Counted o kept after_) (sym is) did.4 in
        record {
          kept = kept;
          after = after_;
          t = t;
          code = code;
          there = x;
          same = same;
          publishing = pub_is;
          next = next_is;
          slot_is = ap (λ (x : CodeId). x.slot) (code_is kept after_ t code change same.thread next_is counted.0 did.3);
          serial_is = cc;
          by_is = cc;
          thread = did.3;
          marks = ap (λ (k : Kept). k.marks) counted.1;
          moments = ap (λ (k : Kept). k.moments) counted.1;
          places = places;
        }

-- the world after a change
abbrev pub changed_world : World → ℕ → Thread → CodeId → World
changed_world w p t code = seated w p (Some (changed_by t code)) (event.At p Change) (difference t code)

-- the sum moves by the change of one thread's count
walk_moved : (places : List (Option Thread)) (p : ℕ) (t u : Thread) (code : CodeId) → slice_get places p ≡ Some (Some t) → sum_by (part_at code) (slice_set places p (Some u)) + part code t ≡ sum_by (part_at code) places + part code u
walk_moved [] p t u code h = cc
walk_moved (o ∷ os) zero t u code h =
    let is : part_at code o ≡ part code t = ap (part_at code) (let k : o ≡ Some t = cc in k) in
    omega (arith, sum_by-cons (part_at code) (Some u) os, sum_by-cons (part_at code) o os, is)
walk_moved (o ∷ os) (suc p) t u code h =
    omega (arith, sum_by-cons (part_at code) o (slice_set os p (Some u)), sum_by-cons (part_at code) o os, walk_moved os p t u code h)

part_other : (t : Thread) (code other : CodeId) → same_code code other ≡ false → part other (changed_by t code) ≡ part other t
part_other t code other h = ap (λ b. cond (b || has_changed t other) (act other t.stack) (act other t.shown)) h

not_same : (code : CodeId) (k : Code) → k.serial ≢ code.serial → same_code code (id_of k) ≡ false
not_same code k differ = by (same_code code (id_of k)) refl
  where
    by : (b : Bool) → same_code code (id_of k) ≡ b → same_code code (id_of k) ≡ false
    by false e = e
    by true e = absurd (differ (sym (ap (λ (x : CodeId). x.serial) (same_is code (id_of k) e))))

-- the counts of other codes are unchanged
other_walk : (w : World) (p : ℕ) (t : Thread) (code : CodeId) (serial q : ℕ) → slice_get w.places p ≡ Some (Some t) → serial ≡ code.serial → q ≢ serial → walk_of (changed_world w p t code) (code_of w.codes q) ≡ walk_of w (code_of w.codes q)
other_walk w p t code serial q there is differ = by (code_of w.codes q) refl
  where
    by : (o : Option Code) → code_of w.codes q ≡ o → walk_of (changed_world w p t code) o ≡ walk_of w o
    by None e = refl
    by (Some k) e =
        let apart : k.serial ≢ code.serial = λ same. differ (sym (code_serial w.codes q k e) ∙ (same ∙ sym is)) in
        walk_seat w.places p t (changed_by t code) (id_of k) there (part_other t code (id_of k) (not_same code k apart))

module _ (s : Core) (w : World) (p slot serial : ℕ) (by : ℤ) (new : List (Option Kept)) (c : WasChanged s w p slot serial by new) where
  goes : outcome w (event.At p Change) ≡ accepted (with_place w p (Some (changed_by c.t c.code))) (difference c.t c.code)
  goes = rw (c.there, c.publishing, c.next) refl

  part_is : part c.code c.t ≡ act c.code c.t.shown
  part_is = ap (λ b. cond b (act c.code c.t.stack) (act c.code c.t.shown)) (left_is_new c.t c.code c.next)

  -- the code has frames in the stack or in the shown stack
  code_live : IsSound w → IsLive w.codes c.code
  code_live sound = by_stack (act c.code c.t.stack) refl
    where
      by_shown : (m : ℕ) → act c.code c.t.stack ≡ 0 → act c.code c.t.shown ≡ m → 0 < part c.code c.t
      by_shown (suc m) e f = omega (arith, part_is, f)
      by_shown zero e f = (let a = left_is_new c.t c.code c.next in let left = next_left c.t c.code c.next in let h = rw (a, e, f) at left in let no : false ≡ true = h in cc)

      by_stack : (n : ℕ) → act c.code c.t.stack ≡ n → IsLive w.codes c.code
      by_stack (suc n) e = sound.frames.live p c.t c.code c.there (omega (arith, e))
      by_stack zero e = sound.frames.counted p c.t c.code c.there (by_shown (act c.code c.t.shown) e refl)

  moves : pos (walk w c.code) +ℤ by ≡ pos (walk (changed_world w p c.t c.code) c.code)
  moves =
      let moved = walk_moved w.places p c.t (changed_by c.t c.code) c.code c.there in
      let now = part_self c.t c.code in
      omega (arith, ints, moved, part_is, now, c.by_is)

  -- the code's cell
  cell_is : Matches s w → IsSound w → slice_get s.index slot ≡ Some (cell_of serial (walk w c.code))
  cell_is m sound =
      let live = code_live sound in
      let there : slice_get s.index (id_of live.0).slot ≡ Some (cell_of serial (walk w (id_of live.0))) = m.index.here serial live.0 (ap (code_of w.codes) c.serial_is ∙ live.1) (takes live.0.state live.3) in
      let P : CodeId → Type 0 = λ x. slice_get s.index x.slot ≡ Some (cell_of serial (walk w x)) in
      subst (λ n. slice_get s.index n ≡ Some (cell_of serial (walk w c.code))) (sym c.slot_is) (subst P live.2 there)

  counts_now : Matches s w → IsSound w → count_at s.index slot serial ≡ walk w c.code
  counts_now m sound = let self : eqb serial serial ≡ true = grind (arith, nat_tests) in ap (count_if serial) (cell_is m sound) ∙ rw self refl

  pub within : Matches s w → IsSound w → slot < length s.index
  within m sound = slice_get_within s.index slot (cell_of serial (walk w c.code)) (cell_is m sound)

  pub of_serial : Matches s w → IsSound w → (cell : Cell) → slice_get s.index slot ≡ Some cell → cell.serial ≡ serial
  of_serial m sound cell at_slot = ap (λ (x : Cell). x.serial) (same_at s.index slot cell (cell_of serial (walk w c.code)) at_slot (cell_is m sound))

  -- the new count is the index's count after the addition
  pub counts_to : Matches s w → IsSound w → pos (count_at s.index slot serial) +ℤ by ≡ pos (walk (changed_world w p c.t c.code) c.code)
  counts_to m sound = let was = counts_now m sound in rw was moves

  pub low : Matches s w → IsSound w → pos 0 ≤ℤ (pos (count_at s.index slot serial) +ℤ by)
  low m sound = omega (arith, ints, counts_to m sound)

  pub high : Matches s w → IsSound w → length s.places.items ≤ 64 → (pos (count_at s.index slot serial) +ℤ by) ≤ℤ pos 16384
  high m sound few =
      let v : World = changed_world w p c.t c.code in
      let stands : Stands w p c.t = record { there = c.there; low = slice_get_within w.places p (Some c.t) c.there } in
      let threads : ThreadsAreSound v.places v.codes (names_given v.log) = (threads_kept w sound.threads).changes p c.t c.code (record { publishes = record { stands = stands; publishing = c.publishing }; next = c.next }) in
      let most = (counts_sound v threads).walk_few c.code in
      let long : length v.places ≡ length s.places.items = length_set w.places p (Some (changed_by c.t c.code)) ∙ sym m.places.lengths in
      omega (arith, ints, counts_to m sound, most, long, few)

  -- the cells match the world after the change
  cells_moved : Matches s w → IsSound w → (n : ℕ) → pos n ≡ pos (count_at s.index slot serial) +ℤ by → SameCells (slice_set s.index slot (cell_of serial n)) (changed_world w p c.t c.code)
  cells_moved m sound n moved = record {
    lengths = length_set s.index slot (cell_of serial n) ∙ m.index.lengths;
    here = λ q k found takes_one. dite (ℕ_discrete q serial)
        (λ same. (
        let are : Some live.0 ≡ Some k = sym mine ∙ (ap (code_of w.codes) (sym same) ∙ found) in
        let one : live.0 ≡ k = cc in
        let P : Code → Type 0 = λ x. slice_get (slice_set s.index slot (cell_of serial n)) x.slot ≡ Some (cell_of q (walk v (id_of x))) in
        subst P one (subst (λ m. slice_get (slice_set s.index slot (cell_of serial n)) m ≡ Some (cell_of q (walk v (id_of live.0)))) slot_of
        (placed ∙ ap₂ (λ x y. Some (cell_of x y)) (sym same) (count ∙ ap (walk v) (sym live.2))))))
        (λ differ. get_set_other s.index slot k.slot (cell_of serial n) (λ same. two_slots w sound q serial k live.0 found mine takes_one (takes live.0.state live.3) differ (same ∙ slot_of))
        ∙ (m.index.here q k found takes_one ∙ ap (λ z. Some (cell_of q z)) (sym (sym (ap (walk_of v) found) ∙ (other_walk w p c.t c.code serial q c.there c.serial_is differ ∙ ap (walk_of w) found)))));
    own = λ at cell at_slot some. dite (ℕ_discrete at slot)
        (λ same. (let is : cell ≡ cell_of serial n = same_at (slice_set s.index slot (cell_of serial n)) slot cell (cell_of serial n) (subst (λ m. slice_get (slice_set s.index slot (cell_of serial n)) m ≡ Some cell) same at_slot) placed in
        (live.0, ap (λ (x : Cell). code_of w.codes x.serial) is ∙ mine, takes live.0.state live.3, sym slot_of ∙ sym same)))
        (λ differ. m.index.own at cell (sym (get_set_other s.index slot at (cell_of serial n) differ) ∙ at_slot) some);
    low = λ at cell at_slot. dite (ℕ_discrete at slot)
        (λ same. (let is : cell ≡ cell_of serial n = same_at (slice_set s.index slot (cell_of serial n)) slot cell (cell_of serial n) (subst (λ m. slice_get (slice_set s.index slot (cell_of serial n)) m ≡ Some cell) same at_slot) placed in
        subst (λ (x : Cell). x.serial < next_serial w.codes) (sym is) (m.index.low slot (cell_of serial (walk w c.code)) (cell_is m sound))))
        (λ differ. m.index.low at cell (sym (get_set_other s.index slot at (cell_of serial n) differ) ∙ at_slot));
  }
    where
      v : World
      v = changed_world w p c.t c.code

      live : IsLive w.codes c.code
      live = code_live sound

      mine : code_of w.codes serial ≡ Some live.0
      mine = ap (code_of w.codes) c.serial_is ∙ live.1

      slot_of : slot ≡ live.0.slot
      slot_of = c.slot_is ∙ sym (ap (λ (x : CodeId). x.slot) live.2)

      count : n ≡ walk v c.code
      count = omega (arith, ints, moved, counts_to m sound)

      placed : slice_get (slice_set s.index slot (cell_of serial n)) slot ≡ Some (cell_of serial n)
      placed = get_set_same s.index slot (cell_of serial n) (within m sound)

  pub change_in : (after_ : Core) → Matches s w → IsSound w → SameOthers s after_ → after_.places.items ≡ new → pos (count_at after_.index slot serial) ≡ pos (count_at s.index slot serial) +ℤ by → after_.index ≡ slice_set s.index slot (cell_of serial (count_at after_.index slot serial))
      → DoesIn (event.At p Change) (answer.Changed serial by) after_ w
  change_in after_ m sound rest places here others =
      let a : Answer = difference c.t c.code in
      accepted_in after_ w (event.At p Change) (with_place w p (Some (changed_by c.t c.code))) a (answer.Changed serial by) goes (ap₂ answer.Changed c.serial_is c.by_is)
      (counted_matches s after_ w p c.kept c.after c.t (changed_by c.t c.code) (event.At p Change) a m (record {
        rest = rest;
        places = places ∙ c.places;
        there = c.there;
        thread = c.thread;
        name = refl;
        marks = rw c.marks c.same.marks;
        moments = rw c.moments (timed p s.moment Change a c.kept.moments w.log m.moment_is c.same.moments);
        index = subst (λ cells. SameCells cells (changed_world w p c.t c.code)) (sym others) (cells_moved m sound (count_at after_.index slot serial) here);
        quiet = act_quiet p Change a;
        elsewhere = λ q differ. act_elsewhere p q Change a differ;
      }))

-- a refused change, and one without a code left, leave the system unchanged
rest_in : (s new : Core) (w : World) (p : ℕ) → Matches s w → SameRest s new → DidChange p s.places.items new.places.items (Ok None) → DoesIn (event.At p Change) answer.NoChange new w
rest_in s new w p m rest did = elim (at_place s w p m) [
  | nowhere e x ↦ (let d = rw e at did in absurd (never None NoSuchPlace d.0))
  | vacant e x ↦ (let d = rw e at did in absurd (never None (Illegal Vacant) d.0))
  | seat kept t e x same ↦ (
      let d : CountedAt p kept s.places.items new.places.items (Ok None) = rw e at did in
      by kept d.after t x same d.places (is_publishing t) (next_change t) refl refl (d.did w t same.thread))
]
  where
    by : (kept after_ : Kept) (t : Thread) → slice_get w.places p ≡ Some (Some t) → SameAt w p kept t → new.places.items ≡ slice_set s.places.items p (Some after_) → (b : Bool) (o : Option CodeId) → is_publishing t ≡ b → next_change t ≡ o → DidNext (says t b o) kept after_ t (Ok None) → DoesIn (event.At p Change) answer.NoChange new w
    by kept after_ t x same places false o pub_is next_is did = absurd (never None NotBegun did.0)
    by kept after_ t x same places true (Some code) pub_is next_is did = absurd (no_change code t (subst (λ o. difference t code ≡ said_change o) (sym (same_change None did.0 did.1)) did.2))
    by kept after_ t x same places true None pub_is next_is did =
        let is : None ≡ did.0 = same_change None did.0 did.1 in
        let stays : after_ ≡ kept = subst (λ o. Counted o kept after_) (sym is) did.4 in
        let goes : outcome w (event.At p Change) ≡ accepted (with_place w p (Some t)) answer.NoChange = rw (x, pub_is, next_is) refl in
        accepted_in new w (event.At p Change) (with_place w p (Some t)) answer.NoChange answer.NoChange goes refl (became s new w p Change kept after_ t t answer.NoChange m rest places x same did.3 (record {
          name = ap (λ (k : Kept). k.name) stays;
          counted = λ code. ap (λ (k : Kept). times code k.image.counted) stays;
          marks_are = ap (λ (k : Kept). k.marks) stays;
          moments_are = ap (λ (k : Kept). k.moments) stays;
        }))

refusal_in : (s new : Core) (w : World) (p : ℕ) (r : Refusal) → Matches s w → SameRest s new → DidChange p s.places.items new.places.items (Err r) → DoesIn (event.At p Change) (answer.Refused r) new w
refusal_in s new w p r m rest did = elim (at_place s w p m) [
  | nowhere e x ↦ (let d = rw e at did in refused_in s new w (event.At p Change) NoSuchPlace (answer.Refused r) rest d.1 m (rw x refl) (same_refusal r NoSuchPlace d.0))
  | vacant e x ↦ (let d = rw e at did in refused_in s new w (event.At p Change) (Illegal Vacant) (answer.Refused r) rest d.1 m (rw x refl) (same_refusal r (Illegal Vacant) d.0))
  | seat kept t e x same ↦ (
      let d : CountedAt p kept s.places.items new.places.items (Err r) = rw e at did in
      by kept d.after t e x d.places (is_publishing t) (next_change t) refl (d.did w t same.thread))
]
  where
    by : (kept after_ : Kept) (t : Thread) → slice_get s.places.items p ≡ Some (Some kept) → slice_get w.places p ≡ Some (Some t) → new.places.items ≡ slice_set s.places.items p (Some after_) → (b : Bool) (o : Option CodeId) → is_publishing t ≡ b → DidNext (says t b o) kept after_ t (Err r) → DoesIn (event.At p Change) (answer.Refused r) new w
    by kept after_ t e x places false o pub_is did =
        let back : new.places.items ≡ s.places.items = places ∙ (ap (λ k. slice_set s.places.items p (Some k)) did.1 ∙ put_back s.places.items p (Some kept) e) in
        refused_in s new w (event.At p Change) NotBegun (answer.Refused r) rest back m (rw (x, pub_is) refl) (same_refusal r NotBegun did.0)
    by kept after_ t e x places true None pub_is did = absurd (never did.0 r (sym did.1))
    by kept after_ t e x places true (Some code) pub_is did = absurd (never did.0 r (sym did.1))

-- each of these holds for every world
count_length : (p : ℕ) (o : Option (Option Kept)) (old new : List (Option Kept)) (result : Result (Option CodeChange) Refusal) → DidCountAt p o old new result → length new ≡ length old
count_length p None old new result d = ap length d.1
count_length p (Some None) old new result d = ap length d.1
count_length p (Some (Some kept)) old new result d = ap length d.places ∙ length_set old p (Some d.after)

pub change_does : (s new : Core) (p : ℕ) (change : CodeChange) → SameOthers s new → DidChange p s.places.items new.places.items (Ok (Some change)) → pos (count_at new.index change.code.slot change.code.serial) ≡ pos (count_at s.index change.code.slot change.code.serial) +ℤ change.by
    → new.index ≡ slice_set s.index change.code.slot (cell_of change.code.serial (count_at new.index change.code.slot change.code.serial)) → Does (event.At p Change) s (answer.Changed change.code.serial change.by) new
change_does s new p change rest did here others = record {
  each = λ w sound m. change_in s w p change.code.slot change.code.serial change.by new.places.items (was_changed s w p change new.places.items m did) new m sound rest refl here others;
  sizes = record {
    places = count_length p (slice_get s.places.items p) s.places.items new.places.items (Ok (Some change)) did;
    slots = ap (λ tb. tb.slots) rest.table;
    methods = ap (λ tb. tb.methods) rest.table;
  };
}

rest_sizes : (s new : Core) (p : ℕ) (result : Result (Option CodeChange) Refusal) → SameRest s new → DidChange p s.places.items new.places.items result → SameSizes s new
rest_sizes s new p result rest did = record {
  places = count_length p (slice_get s.places.items p) s.places.items new.places.items result did;
  slots = ap (λ tb. tb.slots) rest.table;
  methods = ap (λ tb. tb.methods) rest.table;
}

pub rest_does : (s new : Core) (p : ℕ) → SameRest s new → DidChange p s.places.items new.places.items (Ok None) → Does (event.At p Change) s answer.NoChange new
rest_does s new p rest did = record { each = λ w sound m. rest_in s new w p m rest did; sizes = rest_sizes s new p (Ok None) rest did }

pub refusal_does : (s new : Core) (p : ℕ) (r : Refusal) → SameRest s new → DidChange p s.places.items new.places.items (Err r) → Does (event.At p Change) s (answer.Refused r) new
refusal_does s new p r rest did = record { each = λ w sound m. refusal_in s new w p r m rest did; sizes = rest_sizes s new p (Err r) rest did }
