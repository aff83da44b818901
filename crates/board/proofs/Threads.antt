-- Each call of a thread's seat makes a step of the board.
use Rattle.std.proofs.Common.{◌≡◌, ◌≢◌, ◌⊎◌, ℕ, suc, ◌+◌, ◌-◌, ◌^◌, ◌%◌, ◌<◌, ◌≤◌, true, List, get_or, set, sym, refl, ap, ◌∙◌, inl, inr, ⊎_elim, subst, arith}
use Rattle.std.proofs.Math.Nat.{mod-eq_of_lt, add-mod_right}
use mathlib.Core.Option.{none, some}
use lib.ListN.{get_elem?}
use Rattle.atomic_table.specs.Table.{step, keeps, Allows}
use Rattle.frames.specs.declared.CodeId.{CodeId}
use Rattle.frames.specs.declared.board_rule.SeatView.{SeatView}
use Rattle.frames.specs.declared.board_rule.KeeperView.{KeeperView}
use Rattle.frames.specs.declared.board_rule.BoardView.TheVariants.{Thread}
use Rattle.frames.specs.BoardWords.{entry_of, count_of, place_of, the_moment, pack}
use Rattle.frames.specs.BoardRule.{SeatState, BoardState, IsHeldBy}
use Rattle.frames.specs.BoardStep.{seat_entered, seat_read, seat_stored, seat_counted, load_entry, load_moment, store_place, add_count, sub_count}
use Rattle.frames.specs.BoardViews.{seat_state, how_often, has_code, entered, moment_read, stored_as, counted_up, counted_down}
use Rattle.frames.proofs.BoardParts.{past_greater}
use Rattle.frames.proofs.BoardLaws.{count_bounds}
use Rattle.board.specs.Boards.{index_of, thread_of, stamp_of, IsThread, IsBoard}
use Rattle.board.specs.Plays.{Asked, Enters, Reads, Stores, CountsUp, CountsDown}
use Rattle.board.proofs.Indices.{written_in, loaded_in}
use Rattle.board.proofs.Views.{entered_is}
use Rattle.board.proofs.Tables.{Sat, of_table, at_thread, thread_becomes, thread_makes, thread_tells, stamps, stamp_by}

module _ (n : ℕ × ℕ) (slots id : ℕ) (me : Sat) (a : Asked) (is : IsThread me.0) (sizes : n ≡ (a.board.slots, a.board.places)) where
  loads_entry_at : (thread_of me.0).stored ≢ 0 → a.code.slot < n.0 → Allows (IsBoard n) slots id me (index_of n.0 (entry_of a.code.slot)) (λ x. x) (Enters a (step slots (index_of n.0 (entry_of a.code.slot)) 0 0 none) me)
  loads_entry_at some_stored low s b _ at _ =
      let t : SeatView = thread_of me.0 in let c : CodeId = a.code in let i : ℕ = index_of n.0 (entry_of c.slot) in let x : ℕ = get_or s.words i 0 in
      let g : ℕ = stamp_of me.0 in let g' : ℕ = suc (stamps s.views) in let at' : get_elem? s.views id ≡ some (Thread t g) = at ∙ ap some is in let by_all = stamp_by s.views id (Thread t g) at' in let k : KeeperView = b.0 in let us : List SeatView = b.1 in let r = b.2 in
      let m = at_thread n s id t g k us r at' in let seat : SeatState = seat_state t in let old : BoardState = of_table n s k us in
      let made = load_entry t.place c m.low low (λ e. some_stored (sym (ap (λ (u : SeatState). u.stored) m.knows) ∙ e)) (loaded_in n.0 n.1 s.words (entry_of c.slot))
      (thread_becomes n s id t (entered t c x) g g' k us (set s.words i x) (seat_entered (old.seat t.place) c x) r at' (entered_is t c x ∙ ap (λ u. seat_entered u c x) (sym m.knows))) in (
        Thread (entered t c x) g',
        keeps,
        tt,
        thread_makes n s id i x me.1 t (entered t c x) g k us r at' refl made,
        (
          (refl, thread_tells n a.board s id i x t (entered t c x) g g' k us sizes r at' made, omega arith, refl),
          (λ lost same. let g = r.kept.gone_past t.place m.low c (ap (λ (u : SeatState). u.gone c) m.knows ∙ lost) in
              let w : x ≡ pack (old.slot c.slot).serial (old.slot c.slot).state = r.kept.keeper_words.0 c.slot low in let z = past_greater (old.slot c.slot) c g.1 in absurd (omega arith)),
          (λ held. let h : IsHeldBy (old.seat t.place) c = subst (λ u. IsHeldBy u c) (sym m.knows) held in let stands = r.kept.held_stands t.place m.low c h in
              let w : x ≡ pack (old.slot c.slot).serial (old.slot c.slot).state = r.kept.keeper_words.0 c.slot low in
              ⊎_elim (λ e. inl (w ∙ (λ j. pack (stands.1 j) (e j)))) (λ e. inr (w ∙ (λ j. pack (stands.1 j) (e j)))) stands.2),
        ),
      )

  pub loads_entry : (i : ℕ) → i ≡ index_of n.0 (entry_of a.code.slot) → (thread_of me.0).stored ≢ 0 → a.code.slot < n.0 → Allows (IsBoard n) slots id me i (λ x. x) (Enters a (step slots i 0 0 none) me)
  loads_entry i here some_stored low = subst (λ j. Allows (IsBoard n) slots id me j (λ x. x) (Enters a (step slots j 0 0 none) me)) (sym here) (loads_entry_at some_stored low)

  pub loads_moment : Allows (IsBoard n) slots id me (index_of n.0 the_moment) (λ x. x) (Reads a (step slots (index_of n.0 the_moment) 0 0 none) me)
  loads_moment s b _ at _ =
      let t : SeatView = thread_of me.0 in let i : ℕ = index_of n.0 the_moment in let x : ℕ = get_or s.words i 0 in
      let g : ℕ = stamp_of me.0 in let g' : ℕ = suc (stamps s.views) in let at' : get_elem? s.views id ≡ some (Thread t g) = at ∙ ap some is in let by_all = stamp_by s.views id (Thread t g) at' in let k : KeeperView = b.0 in let us : List SeatView = b.1 in let r = b.2 in
      let m = at_thread n s id t g k us r at' in let old : BoardState = of_table n s k us in
      let made = load_moment t.place m.low (loaded_in n.0 n.1 s.words the_moment)
      (thread_becomes n s id t (moment_read t x) g g' k us (set s.words i x) (seat_read (old.seat t.place) x) r at' (ap (λ u. seat_read u x) (sym m.knows))) in (
        Thread (moment_read t x) g',
        keeps,
        tt,
        thread_makes n s id i x me.1 t (moment_read t x) g k us r at' refl made,
        ((refl, thread_tells n a.board s id i x t (moment_read t x) g g' k us sizes r at' made, omega arith, refl), (let is_now : x ≡ k.moment = r.kept.keeper_words.1 in let some_now : 0 < k.moment = r.kept.keeper_words.2 in omega arith)),
      )

  stores_place_at : (m : ℕ) → (((thread_of me.0).moment ≢ 0) × (m ≡ (thread_of me.0).moment)) ⊎ (((c : CodeId) → how_often (thread_of me.0).counted c ≡ 0) × (m ≡ 0))
      → Allows (IsBoard n) slots id me (index_of n.0 (place_of (thread_of me.0).place)) (λ _. m) (Stores a (step slots (index_of n.0 (place_of (thread_of me.0).place)) m 0 none) me)
  stores_place_at m storable s b _ at _ =
      let t : SeatView = thread_of me.0 in let i : ℕ = index_of n.0 (place_of t.place) in
      let g : ℕ = stamp_of me.0 in let g' : ℕ = suc (stamps s.views) in let at' : get_elem? s.views id ≡ some (Thread t g) = at ∙ ap some is in let by_all = stamp_by s.views id (Thread t g) at' in let k : KeeperView = b.0 in let us : List SeatView = b.1 in let r = b.2 in
      let z = at_thread n s id t g k us r at' in let old : BoardState = of_table n s k us in
      let made = store_place t.place m z.low
      (subst (λ (u : SeatState). ((u.moment ≢ 0) × (m ≡ u.moment)) ⊎ (((c : CodeId) → u.counted c ≡ 0) × (m ≡ 0))) (sym z.knows) storable)
      (written_in n.0 n.1 s.words (place_of t.place) m m r.words_are z.low refl)
      (thread_becomes n s id t (stored_as t m) g g' k us (set s.words i m) (seat_stored (old.seat t.place) m) r at' (ap (λ u. seat_stored u m) (sym z.knows))) in (
        Thread (stored_as t m) g',
        keeps,
        tt,
        thread_makes n s id i m me.1 t (stored_as t m) g k us r at' refl made,
        (refl, thread_tells n a.board s id i m t (stored_as t m) g g' k us sizes r at' made, omega arith, refl),
      )

  pub stores_place : (i m : ℕ) → i ≡ index_of n.0 (place_of (thread_of me.0).place) → (((thread_of me.0).moment ≢ 0) × (m ≡ (thread_of me.0).moment)) ⊎ (((c : CodeId) → how_often (thread_of me.0).counted c ≡ 0) × (m ≡ 0))
      → Allows (IsBoard n) slots id me i (λ _. m) (λ _. Stores a (step slots i m 0 none) me m)
  stores_place i m here storable = subst (λ j. Allows (IsBoard n) slots id me j (λ _. m) (λ _. Stores a (step slots j m 0 none) me m)) (sym here) (stores_place_at m storable)

  adds_count_at : (by : ℕ) → n.1 ≤ 64 → 0 < by → has_code (thread_of me.0).fresh a.code ≡ true → how_often (thread_of me.0).counted a.code + by ≤ 256
      → Allows (IsBoard n) slots id me (index_of n.0 (count_of a.code.slot)) (λ x. (x + by) % 2 ^ 64) (CountsUp a (step slots (index_of n.0 (count_of a.code.slot)) by 0 none) me)
  adds_count_at by small some_by fresh few s b _ at _ =
      let t : SeatView = thread_of me.0 in let c : CodeId = a.code in let i : ℕ = index_of n.0 (count_of c.slot) in let x : ℕ = get_or s.words i 0 in let y : ℕ = (x + by) % 2 ^ 64 in
      let g : ℕ = stamp_of me.0 in let g' : ℕ = suc (stamps s.views) in let at' : get_elem? s.views id ≡ some (Thread t g) = at ∙ ap some is in let by_all = stamp_by s.views id (Thread t g) at' in let k : KeeperView = b.0 in let us : List SeatView = b.1 in let r = b.2 in
      let z = at_thread n s id t g k us r at' in let old : BoardState = of_table n s k us in
      let fresh' : (old.seat t.place).fresh c ≡ true = ap (λ (u : SeatState). u.fresh c) z.knows ∙ fresh in
      let often : (old.seat t.place).counted c ≡ how_often t.counted c = ap (λ (u : SeatState). u.counted c) z.knows in
      let stands = r.kept.held_stands t.place z.low c (inr fresh') in let most = (count_bounds n.0 n.1 old r.kept t.place z.low c stands).0 in
      let next : y ≡ x + by = mod-eq_of_lt {n = x + by} {m = 2 ^ 64} (omega arith) in
      let made = add_count t.place c by z.low some_by fresh' (omega arith)
      (written_in n.0 n.1 s.words (count_of c.slot) y (x + by) r.words_are stands.0 next)
      (thread_becomes n s id t (counted_up t c by x) g g' k us (set s.words i y) (seat_counted (old.seat t.place) c ((old.seat t.place).counted c + by)) r at' (ap (λ (u : SeatState). seat_counted u c (u.counted c + by)) (sym z.knows))) in (
        Thread (counted_up t c by x) g',
        keeps,
        tt,
        thread_makes n s id i y me.1 t (counted_up t c by x) g k us r at' refl made,
        (refl, thread_tells n a.board s id i y t (counted_up t c by x) g g' k us sizes r at' made, omega arith, refl),
      )

  pub adds_count : (i by : ℕ) → i ≡ index_of n.0 (count_of a.code.slot) → n.1 ≤ 64 → 0 < by → has_code (thread_of me.0).fresh a.code ≡ true → how_often (thread_of me.0).counted a.code + by ≤ 256
      → Allows (IsBoard n) slots id me i (λ x. (x + by) % 2 ^ 64) (CountsUp a (step slots i by 0 none) me)
  adds_count i by here small some_by fresh few = subst (λ j. Allows (IsBoard n) slots id me j (λ x. (x + by) % 2 ^ 64) (CountsUp a (step slots j by 0 none) me)) (sym here) (adds_count_at by small some_by fresh few)

  subs_count_at : (by : ℕ) → n.1 ≤ 64 → 0 < by → by ≤ how_often (thread_of me.0).counted a.code
      → Allows (IsBoard n) slots id me (index_of n.0 (count_of a.code.slot)) (λ x. (x + (2 ^ 64 - by)) % 2 ^ 64) (CountsDown a (step slots (index_of n.0 (count_of a.code.slot)) by 0 none) me)
  subs_count_at by small some_by enough s b _ at _ =
      let t : SeatView = thread_of me.0 in let c : CodeId = a.code in let i : ℕ = index_of n.0 (count_of c.slot) in let x : ℕ = get_or s.words i 0 in let y : ℕ = (x + (2 ^ 64 - by)) % 2 ^ 64 in
      let g : ℕ = stamp_of me.0 in let g' : ℕ = suc (stamps s.views) in let at' : get_elem? s.views id ≡ some (Thread t g) = at ∙ ap some is in let by_all = stamp_by s.views id (Thread t g) at' in let k : KeeperView = b.0 in let us : List SeatView = b.1 in let r = b.2 in
      let z = at_thread n s id t g k us r at' in let old : BoardState = of_table n s k us in
      let often : (old.seat t.place).counted c ≡ how_often t.counted c = ap (λ (u : SeatState). u.counted c) z.knows in
      let stands = r.kept.held_stands t.place z.low c (inl (omega arith)) in let bounds = count_bounds n.0 n.1 old r.kept t.place z.low c stands in let most = bounds.0 in let least = bounds.1 in
      let few : (old.seat t.place).counted c ≤ 256 = r.kept.counts.1 t.place z.low c in
      let whole : x + (2 ^ 64 - by) ≡ (x - by) + 2 ^ 64 = omega arith in
      let next : y ≡ x - by = ap (λ w. w % 2 ^ 64) whole ∙ (add-mod_right (x - by) (2 ^ 64) ∙ mod-eq_of_lt {n = x - by} {m = 2 ^ 64} (omega arith)) in
      let made = sub_count t.place c by z.low some_by (omega arith)
      (written_in n.0 n.1 s.words (count_of c.slot) y (x - by) r.words_are stands.0 next)
      (thread_becomes n s id t (counted_down t c by x) g g' k us (set s.words i y) (seat_counted (old.seat t.place) c ((old.seat t.place).counted c - by)) r at' (ap (λ (u : SeatState). seat_counted u c (u.counted c - by)) (sym z.knows))) in (
        Thread (counted_down t c by x) g',
        keeps,
        tt,
        thread_makes n s id i y me.1 t (counted_down t c by x) g k us r at' refl made,
        (refl, thread_tells n a.board s id i y t (counted_down t c by x) g g' k us sizes r at' made, omega arith, refl),
      )

  pub subs_count : (i by : ℕ) → i ≡ index_of n.0 (count_of a.code.slot) → n.1 ≤ 64 → 0 < by → by ≤ how_often (thread_of me.0).counted a.code
      → Allows (IsBoard n) slots id me i (λ x. (x + (2 ^ 64 - by)) % 2 ^ 64) (CountsDown a (step slots i by 0 none) me)
  subs_count i by here small some_by enough = subst (λ j. Allows (IsBoard n) slots id me j (λ x. (x + (2 ^ 64 - by)) % 2 ^ 64) (CountsDown a (step slots j by 0 none) me)) (sym here) (subs_count_at by small some_by enough)
