-- Each call of the keeper makes a step of the board.
use Rattle.std.proofs.Common.{[], ◌≡◌, ℕ, suc, ◌+◌, ◌^◌, ◌%◌, ◌<◌, true, false, get_or, set, sym, refl, ap, ◌∙◌, subst, arith, length-set}
use Rattle.std.proofs.Math.Nat.{mod-eq_of_lt}
use mathlib.Core.Option.{none, some}
use lib.ListN.{get_elem?}
use Rattle.atomic_table.specs.Table.{step, keeps, Allows}
use Rattle.frames.specs.declared.CodeId.{CodeId}
use Rattle.frames.specs.declared.board_rule.SlotView.{SlotView}
use Rattle.frames.specs.declared.board_rule.KeeperView.{KeeperView}
use Rattle.frames.specs.declared.board_rule.EntryState.TheVariants.{InUse, NotEntrant, Zombie, Vacant}
use Rattle.frames.specs.declared.board_rule.StepMade.TheVariants.{StoreEntry, LoadPlace, LoadCount}
use Rattle.frames.specs.declared.board_rule.BoardView.TheVariants.{Keeper}
use Rattle.frames.specs.BoardWords.{entry_of, count_of, place_of, the_moment, rank, pack}
use Rattle.frames.specs.BoardRule.{BoardState, code, code_at}
use Rattle.frames.specs.BoardStep.{BoardStep, slot_installed, slot_invalidated, slot_looked, slot_weighed, slot_in, store_in_use, store_not_entrant, add_moment, load_place, load_count, store_zombie, store_vacant, keeper}
use Rattle.frames.specs.BoardViews.{slot_state, slot_of, IsIn, went_round, entry_stored, in_use, not_entrant, in_state, looked_at, weighed, slot_with_look, slot_with_weight}
use Rattle.board.specs.Boards.{index_of, keeper_of, stamp_of, IsKeeper, board_state, IsBoardAt, IsBoard, KeeperSteps}
use Rattle.board.specs.Plays.{Asked, GoesRound, Installs, Invalidates, Looks, Weighs, GoesOn}
use Rattle.board.specs.Notes.{IsLooked}
use Rattle.board.proofs.Indices.{written_in, loaded_in}
use Rattle.board.proofs.Views.{looked_is}
use Rattle.board.proofs.Tables.{Whole, Sat, of_table, at_keeper, seats_by, seats_stay, keeper_makes, keeper_tells, slot_becomes, stamps, stamp_by}

-- the keeper's code of the slot is the one that is asked for
code_is : (b : BoardState) (c : CodeId) → (b.slot c.slot).serial ≡ c.serial → code_at b c.slot ≡ c
code_is b c e = λ i. code c.slot (e i)

module _ (n : ℕ × ℕ) (slots id : ℕ) (me : Sat) (a : Asked) (is : IsKeeper me.0) (sizes : n ≡ (a.board.slots, a.board.places)) where
  pub adds_moment : (keeper_of me.0).moment + 1 < 2 ^ 40 → Allows (IsBoard n) slots id me (index_of n.0 the_moment) (λ x. (x + 1) % 2 ^ 64) (GoesRound a (step slots (index_of n.0 the_moment) 1 0 none) me)
  adds_moment room s b _ at _ =
      let k : KeeperView = keeper_of me.0 in let i : ℕ = index_of n.0 the_moment in let x : ℕ = get_or s.words i 0 in let y : ℕ = (x + 1) % 2 ^ 64 in
      let g : ℕ = stamp_of me.0 in let g' : ℕ = suc (stamps s.views) in let at' : get_elem? s.views id ≡ some (Keeper k [] g) = at ∙ ap some is in let by_all = stamp_by s.views id (Keeper k [] g) at' in let z = at_keeper n s id k g b at' in let r = z.1 in
      let found : x ≡ k.moment = r.kept.keeper_words.1 in
      let next : y ≡ x + 1 = mod-eq_of_lt {n = x + 1} {m = 2 ^ 64} (omega arith) in
      let made = add_moment (omega arith) (written_in n.0 n.1 s.words the_moment y (x + 1) r.words_are tt next)
      record { mine = refl; slots_stay = refl; seats_stay = subst (λ w. seats_by [] (set s.views w (Keeper (went_round k x) [] g')) ≡ seats_by [] s.views) (sym z.0) (seats_stay [] s.views (went_round k x) g') } in (
        Keeper (went_round k x) [] g',
        keeps,
        tt,
        keeper_makes n s id i y me.1 k (went_round k x) g r at' z.0 refl refl made,
        ((refl, keeper_tells n a.board s id i y k (went_round k x) g' sizes r made, omega arith), found),
      )

  -- a store of an entry, which leaves v of the slot
  stores_entry_at : (m : ℕ) (v : SlotView) → a.code.slot < n.0
      → ((s : Whole) (k' : KeeperView) → k' ≡ entry_stored (keeper_of me.0) a.code v → IsBoardAt n s (keeper_of me.0) [] → id ≡ 0
      → BoardStep n.0 n.1 (of_table n s (keeper_of me.0) []) (board_state n.0 (set s.words (index_of n.0 (entry_of a.code.slot)) m) k' [] (set s.views id (Keeper k' [] (suc (stamps s.views))))) keeper (StoreEntry a.code v.state))
      → Allows (IsBoard n) slots id me (index_of n.0 (entry_of a.code.slot)) (λ _. m) (λ _ w. (w.0 ≡ Keeper (entry_stored (keeper_of me.0) a.code v) [] (stamp_of w.0)) × KeeperSteps a.board (keeper_of me.0) (keeper_of w.0) × (stamp_of me.0 < stamp_of w.0))
  stores_entry_at m v low step_of s b _ at _ =
      let k : KeeperView = keeper_of me.0 in let i : ℕ = index_of n.0 (entry_of a.code.slot) in let k' : KeeperView = entry_stored k a.code v in
      let g : ℕ = stamp_of me.0 in let g' : ℕ = suc (stamps s.views) in let at' : get_elem? s.views id ≡ some (Keeper k [] g) = at ∙ ap some is in let by_all = stamp_by s.views id (Keeper k [] g) at' in let z = at_keeper n s id k g b at' in let r = z.1 in
      let made = step_of s k' refl r z.0 in (
        Keeper k' [] g',
        keeps,
        tt,
        keeper_makes n s id i m me.1 k k' g r at' z.0 refl (length-set k.slots a.code.slot v) made,
        (refl, keeper_tells n a.board s id i m k k' g' sizes r made, omega arith),
      )

  pub stores_in_use : (i m : ℕ) → i ≡ index_of n.0 (entry_of a.code.slot) → m ≡ pack a.code.serial InUse → a.code.slot < n.0
      → (slot_of (keeper_of me.0) a.code.slot).state ≡ Vacant → (slot_of (keeper_of me.0) a.code.slot).serial < a.code.serial → a.code.serial < 2 ^ 40
      → Allows (IsBoard n) slots id me i (λ _. m) (λ _. Installs a (step slots i m 0 none) me m)
  stores_in_use i m here word low vacant later small = subst (λ j. Allows (IsBoard n) slots id me j (λ _. m) (λ _. Installs a (step slots j m 0 none) me m)) (sym here)
      (stores_entry_at m (in_use a.code) low (λ s k' e r first. store_in_use a.code low vacant later small (written_in n.0 n.1 s.words (entry_of a.code.slot) m (pack a.code.serial InUse) r.words_are low word)
      (slot_becomes n s id a.code.slot (keeper_of me.0) k' (suc (stamps s.views)) (set s.words (index_of n.0 (entry_of a.code.slot)) m) (in_use a.code) (slot_installed a.code.serial) r first low (ap (λ (z : KeeperView). z.slots) e) (ap (λ (z : KeeperView). z.moment) e) refl)))

  pub stores_not_entrant : (i m : ℕ) → i ≡ index_of n.0 (entry_of a.code.slot) → m ≡ pack a.code.serial NotEntrant → a.code.slot < n.0 → IsIn (keeper_of me.0) a.code InUse
      → Allows (IsBoard n) slots id me i (λ _. m) (λ _. Invalidates a (step slots i m 0 none) me m)
  stores_not_entrant i m here word low code_in = let k : KeeperView = keeper_of me.0 in let c : CodeId = a.code in
      subst (λ j. Allows (IsBoard n) slots id me j (λ _. m) (λ _. Invalidates a (step slots j m 0 none) me m)) (sym here)
      (stores_entry_at m (not_entrant c k.moment) low (λ s k' e r first.
      subst (λ d. BoardStep n.0 n.1 (of_table n s k []) (board_state n.0 (set s.words (index_of n.0 (entry_of c.slot)) m) k' [] (set s.views id (Keeper k' [] (suc (stamps s.views))))) keeper (StoreEntry d NotEntrant)) (code_is (of_table n s k []) c code_in.0)
      (store_not_entrant c.slot low code_in.1 (written_in n.0 n.1 s.words (entry_of c.slot) m (pack (slot_of k c.slot).serial NotEntrant) r.words_are low (word ∙ ap (λ x. pack x NotEntrant) (sym code_in.0)))
      (slot_becomes n s id c.slot k k' (suc (stamps s.views)) (set s.words (index_of n.0 (entry_of c.slot)) m) (not_entrant c k.moment) (slot_invalidated (slot_state (slot_of k c.slot)) k.moment) r first low (ap (λ (z : KeeperView). z.slots) e) (ap (λ (z : KeeperView). z.moment) e)
      (λ j. record { serial = sym code_in.0 j; state = NotEntrant; left = k.moment; looked = λ p. false; clear = false })))))

  pub stores_zombie : (i m : ℕ) → i ≡ index_of n.0 (entry_of a.code.slot) → m ≡ pack a.code.serial Zombie → a.code.slot < n.0 → IsIn (keeper_of me.0) a.code NotEntrant → (slot_of (keeper_of me.0) a.code.slot).clear ≡ true
      → Allows (IsBoard n) slots id me i (λ _. m) (λ _. GoesOn Zombie a (step slots i m 0 none) me m)
  stores_zombie i m here word low code_in clear = let k : KeeperView = keeper_of me.0 in let c : CodeId = a.code in
      subst (λ j. Allows (IsBoard n) slots id me j (λ _. m) (λ _. GoesOn Zombie a (step slots j m 0 none) me m)) (sym here)
      (stores_entry_at m (in_state (slot_of k c.slot) Zombie) low (λ s k' e r first.
      subst (λ d. BoardStep n.0 n.1 (of_table n s k []) (board_state n.0 (set s.words (index_of n.0 (entry_of c.slot)) m) k' [] (set s.views id (Keeper k' [] (suc (stamps s.views))))) keeper (StoreEntry d Zombie)) (code_is (of_table n s k []) c code_in.0)
      (store_zombie c.slot low code_in.1 clear (written_in n.0 n.1 s.words (entry_of c.slot) m (pack (slot_of k c.slot).serial Zombie) r.words_are low (word ∙ ap (λ x. pack x Zombie) (sym code_in.0)))
      (slot_becomes n s id c.slot k k' (suc (stamps s.views)) (set s.words (index_of n.0 (entry_of c.slot)) m) (in_state (slot_of k c.slot) Zombie) (slot_in (slot_state (slot_of k c.slot)) Zombie) r first low (ap (λ (z : KeeperView). z.slots) e) (ap (λ (z : KeeperView). z.moment) e) refl))))

  pub stores_vacant : (i m : ℕ) → i ≡ index_of n.0 (entry_of a.code.slot) → m ≡ pack a.code.serial Vacant → a.code.slot < n.0 → IsIn (keeper_of me.0) a.code Zombie
      → Allows (IsBoard n) slots id me i (λ _. m) (λ _. GoesOn Vacant a (step slots i m 0 none) me m)
  stores_vacant i m here word low code_in = let k : KeeperView = keeper_of me.0 in let c : CodeId = a.code in
      subst (λ j. Allows (IsBoard n) slots id me j (λ _. m) (λ _. GoesOn Vacant a (step slots j m 0 none) me m)) (sym here)
      (stores_entry_at m (in_state (slot_of k c.slot) Vacant) low (λ s k' e r first.
      subst (λ d. BoardStep n.0 n.1 (of_table n s k []) (board_state n.0 (set s.words (index_of n.0 (entry_of c.slot)) m) k' [] (set s.views id (Keeper k' [] (suc (stamps s.views))))) keeper (StoreEntry d Vacant)) (code_is (of_table n s k []) c code_in.0)
      (store_vacant c.slot low code_in.1 (written_in n.0 n.1 s.words (entry_of c.slot) m (pack (slot_of k c.slot).serial Vacant) r.words_are low (word ∙ ap (λ x. pack x Vacant) (sym code_in.0)))
      (slot_becomes n s id c.slot k k' (suc (stamps s.views)) (set s.words (index_of n.0 (entry_of c.slot)) m) (in_state (slot_of k c.slot) Vacant) (slot_in (slot_state (slot_of k c.slot)) Vacant) r first low (ap (λ (z : KeeperView). z.slots) e) (ap (λ (z : KeeperView). z.moment) e) refl))))

  loads_place_at : a.code.slot < n.0 → a.place < n.1 → IsIn (keeper_of me.0) a.code NotEntrant
      → Allows (IsBoard n) slots id me (index_of n.0 (place_of a.place)) (λ x. x) (Looks a (step slots (index_of n.0 (place_of a.place)) 0 0 none) me)
  loads_place_at low low' code_in s b _ at _ =
      let k : KeeperView = keeper_of me.0 in let c : CodeId = a.code in let i : ℕ = index_of n.0 (place_of a.place) in let x : ℕ = get_or s.words i 0 in
      let g : ℕ = stamp_of me.0 in let g' : ℕ = suc (stamps s.views) in let at' : get_elem? s.views id ≡ some (Keeper k [] g) = at ∙ ap some is in let by_all = stamp_by s.views id (Keeper k [] g) at' in let z = at_keeper n s id k g b at' in let r = z.1 in
      let v : SlotView = slot_with_look (slot_of k c.slot) a.place x in let k' : KeeperView = looked_at k c a.place x in
      let made = subst (λ d. BoardStep n.0 n.1 (of_table n s k []) (board_state n.0 (set s.words i x) k' [] (set s.views id (Keeper k' [] g'))) keeper (LoadPlace d a.place x)) (code_is (of_table n s k []) c code_in.0)
      (load_place c.slot a.place low low' code_in.1 (loaded_in n.0 n.1 s.words (place_of a.place))
      (slot_becomes n s id c.slot k k' (suc (stamps s.views)) (set s.words i x) v (slot_looked (slot_state (slot_of k c.slot)) a.place x) r z.0 low refl refl (looked_is (slot_of k c.slot) a.place x))) in (
        Keeper k' [] g',
        keeps,
        tt,
        keeper_makes n s id i x me.1 k k' g r at' z.0 refl (length-set k.slots c.slot v) made,
        (refl, keeper_tells n a.board s id i x k k' g' sizes r made, omega arith),
      )

  pub loads_place : (i : ℕ) → i ≡ index_of n.0 (place_of a.place) → a.code.slot < n.0 → a.place < n.1 → IsIn (keeper_of me.0) a.code NotEntrant
      → Allows (IsBoard n) slots id me i (λ x. x) (Looks a (step slots i 0 0 none) me)
  loads_place i here low low' code_in = subst (λ j. Allows (IsBoard n) slots id me j (λ x. x) (Looks a (step slots j 0 0 none) me)) (sym here) (loads_place_at low low' code_in)

  loads_count_at : a.code.slot < n.0 → IsIn (keeper_of me.0) a.code NotEntrant → ((p : ℕ) → p < n.1 → IsLooked (keeper_of me.0) a.code p)
      → Allows (IsBoard n) slots id me (index_of n.0 (count_of a.code.slot)) (λ x. x) (Weighs a (step slots (index_of n.0 (count_of a.code.slot)) 0 0 none) me)
  loads_count_at low code_in all s b _ at _ =
      let k : KeeperView = keeper_of me.0 in let c : CodeId = a.code in let i : ℕ = index_of n.0 (count_of c.slot) in let x : ℕ = get_or s.words i 0 in
      let g : ℕ = stamp_of me.0 in let g' : ℕ = suc (stamps s.views) in let at' : get_elem? s.views id ≡ some (Keeper k [] g) = at ∙ ap some is in let by_all = stamp_by s.views id (Keeper k [] g) at' in let z = at_keeper n s id k g b at' in let r = z.1 in
      let v : SlotView = slot_with_weight (slot_of k c.slot) x in let k' : KeeperView = weighed k c x in
      let made = subst (λ d. BoardStep n.0 n.1 (of_table n s k []) (board_state n.0 (set s.words i x) k' [] (set s.views id (Keeper k' [] g'))) keeper (LoadCount d x)) (code_is (of_table n s k []) c code_in.0)
      (load_count c.slot low (λ used. let e : rank NotEntrant ≡ rank InUse = ap rank (sym code_in.1 ∙ used) in absurd (omega arith)) all (loaded_in n.0 n.1 s.words (count_of c.slot))
      (slot_becomes n s id c.slot k k' (suc (stamps s.views)) (set s.words i x) v (slot_weighed (slot_state (slot_of k c.slot)) x) r z.0 low refl refl refl)) in (
        Keeper k' [] g',
        keeps,
        tt,
        keeper_makes n s id i x me.1 k k' g r at' z.0 refl (length-set k.slots c.slot v) made,
        (refl, keeper_tells n a.board s id i x k k' g' sizes r made, omega arith),
      )

  pub loads_count : (i : ℕ) → i ≡ index_of n.0 (count_of a.code.slot) → a.code.slot < n.0 → IsIn (keeper_of me.0) a.code NotEntrant → ((p : ℕ) → p < n.1 → IsLooked (keeper_of me.0) a.code p)
      → Allows (IsBoard n) slots id me i (λ x. x) (Weighs a (step slots i 0 0 none) me)
  loads_count i here low code_in all = subst (λ j. Allows (IsBoard n) slots id me j (λ x. x) (Weighs a (step slots j 0 0 none) me)) (sym here) (loads_count_at low code_in all)
