-- No step at another word is told as a step at the word that it is about: another seat's steps lead to a board where that word differs.
use Rattle.std.proofs.Common.{◌≡◌, ◌≢◌, ℕ, zero, suc, ◌+◌, ◌-◌, ◌^◌, ◌%◌, ◌<◌, List, [], ◌∷◌, length, get_or, set, sym, refl, ap, ◌∙◌, inl, subst, arith, length-set, get_or-set_same, get_or-set_other}
use Rattle.std.proofs.Math.Nat.{mod-eq_of_lt, add-mod_right}
use Rattle.std.proofs.lemmas.List.{set-get_or}
use mathlib.Core.Option.{Option, none, some}
use lib.ListN.{get_elem?}
use Rattle.atomic_table.specs.Table.{Act, keeps, takes, gives, chain, stepped, homes_after, carried_after}
use Rattle.atomic_table.proofs.Lists.{set_else}
use Rattle.frames.specs.declared.CodeId.{CodeId}
use Rattle.frames.specs.declared.board_rule.EntryState.TheVariants.{InUse, NotEntrant}
use Rattle.frames.specs.declared.board_rule.StepMade.{StepMade}
use Rattle.frames.specs.declared.board_rule.SeatView.{SeatView}
use Rattle.frames.specs.declared.board_rule.BoardView.TheVariants.{Keeper, Thread}
use Rattle.frames.specs.BoardWords.{entry_of, count_of, place_of, the_moment, pack}
use Rattle.frames.specs.BoardRule.{code, SeatState}
use Rattle.frames.specs.BoardViews.{slot_of, how_often, moment_read, stored_as, counted_down}
use Rattle.frames.proofs.BoardLaws.{count_bounds}
use Rattle.board.specs.Boards.{index_of, word_in, stamp_of, IsToldBy}
use Rattle.board.specs.Plays.{Asked}
use Rattle.board.specs.Laws.{IsFoundAt, MomentsElsewhereRefused, EntriesElsewhereRefused, LooksElsewhereRefused, WeightsElsewhereRefused}
use Rattle.board.proofs.Indices.{index_low}
use Rattle.board.proofs.Tables.{Whole, set_found, at_keeper, at_thread, of_table}
use Rattle.board.proofs.Threads.{loads_moment, stores_place, subs_count}
use Rattle.board.proofs.Keepers.{adds_moment, stores_not_entrant}
use Rattle.board.proofs.Answered.{answers_stand, keeper_answers_stand}

-- what a step is about, on some board
abbrev about : ℕ × ℕ → CodeId → Asked
about n c = record { board = record { table = record { words = 0; slots = 0; views_name = 0; atom = 0; block = 0; offset = 0; slot_names = [] }; slots = n.0; places = n.1 }; code = c; place = 0 }

abbrev any_code : CodeId
any_code = code 0 0

-- an act leaves the number of slots
homes_stay : (a : Act (Unit {0})) (hs : List (Option (Unit {0}))) (c : List (ℕ × Unit {0})) → length (homes_after hs c a) ≡ length hs
homes_stay keeps hs c = refl
homes_stay (takes k y) hs c = length-set hs k none
homes_stay gives hs [] = refl
homes_stay gives hs (x ∷ xs) = length-set hs x.0 (some x.1)
homes_stay (chain a b) hs c = homes_stay b (homes_after hs c a) (carried_after c a) ∙ homes_stay a hs c

-- what a view says of its last step
of_last : (n : ℕ × ℕ) (ws : List ℕ) (p : ℕ) (made made' : StepMade) → made ≡ made' → IsToldBy (word_in n.0 ws) p made → IsToldBy (word_in n.0 ws) p made'
of_last n ws p made made' e = subst (IsToldBy (word_in n.0 ws) p) e

-- one step at the word i, which is told as one at j, finds the same word at j on two lists of words that agree at i
two_words : (ws ws' : List ℕ) (i j : ℕ) (f h : ℕ → ℕ) → i ≢ j → get_or ws' i 0 ≡ get_or ws i 0
    → get_or (set ws i (f (get_or ws i 0))) j 0 ≡ h (get_or ws i 0) → get_or (set ws' i (f (get_or ws' i 0))) j 0 ≡ h (get_or ws' i 0) → get_or ws j 0 ≡ get_or ws' j 0
two_words ws ws' i j f h apart alike one two =
    sym (get_or-set_other ws i j (f (get_or ws i 0)) 0 (λ e. apart (sym e))) ∙ (one ∙ (ap h (sym alike) ∙ (sym two ∙ get_or-set_other ws' i j (f (get_or ws' i 0)) 0 (λ e. apart (sym e)))))

pub moments_elsewhere_refused : MomentsElsewhereRefused
moments_elsewhere_refused n slots p i stamp k t u f h s found seat_k seat room apart is allowed =
    let j : ℕ = index_of n.0 the_moment in let x : ℕ = get_or s.words j 0 in let m : ℕ = (x + 1) % 2 ^ 64 in
    let r = (at_keeper n s 0 k seat_k.0 found.board seat_k.1).1 in let now : x ≡ k.moment = r.kept.keeper_words.1 in
    let next = adds_moment n slots 0 (Keeper k [] seat_k.0, []) (about n any_code) refl refl room s found.board found.homes seat_k.1 (omega arith) in
    let s' : Whole = stepped s j m 0 [] next.0 next.1 in
    let alike : get_or s'.words i 0 ≡ get_or s.words i 0 = get_or-set_other s.words j i m 0 apart in
    let after : IsFoundAt n slots i s' = record { board = next.3; homes = homes_stay next.1 s.homes [] ∙ found.homes; fits = subst (λ z. z < 18446744073709551616) (sym alike) found.fits } in
    let same = two_words s.words s'.words i j f h apart alike (of_last n _ _ _ _ (is (get_or s.words i 0)) (answers_stand n slots p i stamp t u f s found seat allowed))
    (of_last n _ _ _ _ (is (get_or s'.words i 0)) (answers_stand n slots p i stamp t u f s' after (seat.0, set_else s.views 0 (suc p) next.0 (λ e. omega arith) ∙ seat.1) allowed)) in
    let inside = index_low n.0 n.1 the_moment tt in let wide = r.words_are in
    let here : get_or s'.words j 0 ≡ m = get_or-set_same s.words j m 0 (omega arith) in
    let up : m ≡ x + 1 = mod-eq_of_lt {n = x + 1} {m = 2 ^ 64} (omega arith) in omega arith

pub entries_elsewhere_refused : EntriesElsewhereRefused
entries_elsewhere_refused n slots p i stamp k t u c f h s found seat_k seat low used apart is allowed =
    let j : ℕ = index_of n.0 (entry_of c.slot) in let x : ℕ = get_or s.words j 0 in let serial : ℕ = (slot_of k c.slot).serial in let m : ℕ = pack serial NotEntrant in
    let r = (at_keeper n s 0 k seat_k.0 found.board seat_k.1).1 in
    let was : x ≡ pack serial InUse = r.kept.keeper_words.0 c.slot low ∙ ap (pack serial) used in let small = r.kept.bounds.1 c.slot low in
    let next = stores_not_entrant n slots 0 (Keeper k [] seat_k.0, []) (about n (code c.slot serial)) refl refl j m refl refl low (refl, used) s found.board found.homes seat_k.1 (omega arith) in
    let s' : Whole = stepped s j m 0 [] next.0 next.1 in
    let alike : get_or s'.words i 0 ≡ get_or s.words i 0 = get_or-set_other s.words j i m 0 apart in
    let after : IsFoundAt n slots i s' = record { board = next.3; homes = homes_stay next.1 s.homes [] ∙ found.homes; fits = subst (λ z. z < 18446744073709551616) (sym alike) found.fits } in
    let same = two_words s.words s'.words i j f h apart alike (of_last n _ _ _ _ (is (get_or s.words i 0)) (answers_stand n slots p i stamp t u f s found seat allowed))
    (of_last n _ _ _ _ (is (get_or s'.words i 0)) (answers_stand n slots p i stamp t u f s' after (seat.0, set_else s.views 0 (suc p) next.0 (λ e. omega arith) ∙ seat.1) allowed)) in
    let inside = index_low n.0 n.1 (entry_of c.slot) low in let wide = r.words_are in
    let here : get_or s'.words j 0 ≡ m = get_or-set_same s.words j m 0 (omega arith) in omega arith

pub looks_elsewhere_refused : LooksElsewhereRefused
looks_elsewhere_refused n slots p i stamp k t u c f h s found seat_k seat past apart is allowed =
    let j : ℕ = index_of n.0 (place_of p) in let x : ℕ = get_or s.words 8 0 in let m : ℕ = k.moment in
    let r = (at_keeper n s 0 k seat_k.0 found.board seat_k.1).1 in let now : x ≡ m = r.kept.keeper_words.1 in let bound = r.kept.bounds.0 in let some_now = r.kept.keeper_words.2 in
    let z = at_thread n s (suc p) t seat.0 k [] r seat.1 in let mine : suc p ≡ suc t.place = r.seated (suc p) (Thread t seat.0) seat.1 in
    let place : p ≡ t.place = omega arith in
    let was : get_or s.words j 0 ≡ t.stored = ap (λ q. get_or s.words (index_of n.0 (place_of q)) 0) place ∙ ((r.kept.place_words t.place z.low).word_is ∙ ap (λ (u : SeatState). u.stored) z.knows) in
    let stored_low = (r.kept.place_words t.place z.low).stored_by in let stored_is : _ ≡ t.stored = ap (λ (u : SeatState). u.stored) z.knows in
    let one = loads_moment n slots (suc p) (Thread t seat.0, []) (about n any_code) refl refl s found.board found.homes seat.1 (omega arith) in
    let s1 : Whole = stepped s 8 x (suc p) [] one.0 one.1 in let t1 : SeatView = moment_read t x in
    let at1 : get_elem? s1.views (suc p) ≡ some (Thread t1 (stamp_of one.0)) = set_found s.views (suc p) (Thread t seat.0) one.0 seat.1 ∙ ap some one.4.0.0 in let wide1 = homes_stay one.1 s.homes [] ∙ found.homes in
    let stays : s1.words ≡ s.words = set-get_or s.words 8 0 in
    let two = stores_place n slots (suc p) (Thread t1 (stamp_of one.0), []) (about n any_code) refl refl j m (ap (λ q. index_of n.0 (place_of q)) place) (inl ((λ e. omega arith), sym now)) s1 one.3 wide1 at1
    (subst (λ ws. get_or ws j 0 < 18446744073709551616) (sym stays) (omega arith)) in
    let s2 : Whole = stepped s1 j m (suc p) [] two.0 two.1 in
    let alike : get_or s2.words i 0 ≡ get_or s.words i 0 = get_or-set_other s1.words j i m 0 apart ∙ ap (λ ws. get_or ws i 0) stays in
    let after : IsFoundAt n slots i s2 = record { board = two.3; homes = homes_stay two.1 s1.homes [] ∙ wide1; fits = subst (λ v. v < 18446744073709551616) (sym alike) found.fits } in
    let keeper2 : get_elem? s2.views 0 ≡ some (Keeper k [] seat_k.0) = set_else s1.views (suc p) 0 two.0 (λ e. omega arith) ∙ (set_else s.views (suc p) 0 one.0 (λ e. omega arith) ∙ seat_k.1) in
    let same = two_words s.words s2.words i j f h apart alike (of_last n _ 0 _ _ (is (get_or s.words i 0)) (keeper_answers_stand n slots i stamp p k t u f s found seat_k seat allowed))
    (of_last n _ 0 _ _ (is (get_or s2.words i 0)) (keeper_answers_stand n slots i stamp p k (stored_as t1 m) u f s2 after (seat_k.0, keeper2) (stamp_of two.0, set_found s1.views (suc p) (Thread t1 (stamp_of one.0)) two.0 at1 ∙ ap some two.4.0) allowed)) in
    let inside = index_low n.0 n.1 (place_of t.place) z.low in let wide = r.words_are in
    let here : get_or s2.words j 0 ≡ m = get_or-set_same s1.words j m 0 (subst (λ ws. j < length ws) (sym stays) (omega arith)) in past (sym was ∙ (same ∙ here))

-- a number that fits a word isn't what a fetch-sub of 1 makes of it
one_less : (x : ℕ) → x < 2 ^ 64 → (x + (2 ^ 64 - 1)) % 2 ^ 64 ≢ x
one_less zero low e = let is : (2 ^ 64 - 1) % 2 ^ 64 ≡ 2 ^ 64 - 1 = mod-eq_of_lt {n = 2 ^ 64 - 1} {m = 2 ^ 64} (omega arith) in absurd (omega arith)
one_less (suc x) low e = let whole : suc x + (2 ^ 64 - 1) ≡ x + 2 ^ 64 = omega arith in
    let is : (suc x + (2 ^ 64 - 1)) % 2 ^ 64 ≡ x = ap (λ w. w % 2 ^ 64) whole ∙ (add-mod_right x (2 ^ 64) ∙ mod-eq_of_lt {n = x} {m = 2 ^ 64} (omega arith)) in omega arith

pub weights_elsewhere_refused : WeightsElsewhereRefused
weights_elsewhere_refused n slots p i stamp k t u c f h s found seat_k seat few counts apart is allowed =
    let j : ℕ = index_of n.0 (count_of c.slot) in let x : ℕ = get_or s.words j 0 in let m : ℕ = (x + (2 ^ 64 - 1)) % 2 ^ 64 in
    let r = (at_keeper n s 0 k seat_k.0 found.board seat_k.1).1 in let z = at_thread n s (suc p) t seat.0 k [] r seat.1 in
    let often : _ ≡ how_often t.counted c = ap (λ (u : SeatState). u.counted c) z.knows in
    let stands = r.kept.held_stands t.place z.low c (inl (omega arith)) in let bounds = count_bounds n.0 n.1 (of_table n s k []) r.kept t.place z.low c stands in let most = bounds.0 in
    let next = subs_count n slots (suc p) (Thread t seat.0, []) (about n c) refl refl j 1 refl few (omega arith) (omega arith) s found.board found.homes seat.1 (omega arith) in
    let s' : Whole = stepped s j m (suc p) [] next.0 next.1 in
    let alike : get_or s'.words i 0 ≡ get_or s.words i 0 = get_or-set_other s.words j i m 0 apart in
    let after : IsFoundAt n slots i s' = record { board = next.3; homes = homes_stay next.1 s.homes [] ∙ found.homes; fits = subst (λ v. v < 18446744073709551616) (sym alike) found.fits } in
    let same = two_words s.words s'.words i j f h apart alike (of_last n _ 0 _ _ (is (get_or s.words i 0)) (keeper_answers_stand n slots i stamp p k t u f s found seat_k seat allowed))
    (of_last n _ 0 _ _ (is (get_or s'.words i 0)) (keeper_answers_stand n slots i stamp p k (counted_down t c 1 x) u f s' after (seat_k.0, set_else s.views (suc p) 0 next.0 (λ e. omega arith) ∙ seat_k.1)
    (stamp_of next.0, set_found s.views (suc p) (Thread t seat.0) next.0 seat.1 ∙ ap some next.4.0) allowed)) in
    let inside = index_low n.0 n.1 (count_of c.slot) stands.0 in let wide = r.words_are in
    let here : get_or s'.words j 0 ≡ m = get_or-set_same s.words j m 0 (omega arith) in one_less x (omega arith) (sym (same ∙ here))
