-- The words of a board don't lie on one another: a write of one leaves the others.
use Rattle.std.proofs.Common.{◌≡◌, ◌≢◌, ◌⊎◌, ℕ, zero, suc, inl, inr, ⊎_elim, ◌+◌, ◌*◌, ◌<◌, cond, Bool, true, false, List, length, get_or, set, sym, refl, ap, ◌∙◌, arith, get_or-set_same, get_or-set_other}
use Rattle.std.proofs.lemmas.Bool.{eqb-true, eqb-false, false≢true}
use Rattle.std.proofs.lemmas.List.{set-get_or}
use Rattle.frames.specs.BoardWords.{Word, IsWord, entry_of, count_of, place_of, the_moment, same_word, written}
use mathlib.Core.Logic.{dite}
use native.Mathlib.Decide.{ℕ_discrete}
use Rattle.board.specs.Boards.{index_of, words_at, word_in}
use Rattle.board.specs.Laws.{AreFarApart, WordsApart, WordsInside}

far : (base k j : ℕ) → k ≢ j → AreFarApart (base + 8 * k) (base + 8 * j)
far base k j ne = ⊎_elim (λ h. inl (omega arith)) (λ h. inr (omega arith)) (apart k j ne)
  where
    apart : (a b : ℕ) → a ≢ b → (a < b) ⊎ (b < a)
    apart zero zero d = absurd (d refl)
    apart zero (suc b) d = inl (omega arith)
    apart (suc a) zero d = inr (omega arith)
    apart (suc a) (suc b) d = ⊎_elim (λ h. inl (omega arith)) (λ h. inr (omega arith)) (apart a b (λ e. d (ap suc e)))

pub index_low : (slots places : ℕ) (x : Word) → IsWord slots places x → index_of slots x < words_at slots places
index_low slots places (entry_of k) h = omega arith
index_low slots places (count_of k) h = omega arith
index_low slots places (place_of p) h = omega arith
index_low slots places the_moment h = omega arith

same_index : (slots : ℕ) (x y : Word) → same_word y x ≡ true → index_of slots y ≡ index_of slots x
same_index slots (entry_of k) (entry_of j) e = let same : j ≡ k = eqb-true j k e in omega arith
same_index slots (count_of k) (count_of j) e = let same : j ≡ k = eqb-true j k e in omega arith
same_index slots (place_of k) (place_of j) e = let same : j ≡ k = eqb-true j k e in omega arith
same_index slots the_moment the_moment e = refl
same_index slots (entry_of k) (count_of j) e = absurd (false≢true e)
same_index slots (entry_of k) (place_of j) e = absurd (false≢true e)
same_index slots (entry_of k) the_moment e = absurd (false≢true e)
same_index slots (count_of k) (entry_of j) e = absurd (false≢true e)
same_index slots (count_of k) (place_of j) e = absurd (false≢true e)
same_index slots (count_of k) the_moment e = absurd (false≢true e)
same_index slots (place_of k) (entry_of j) e = absurd (false≢true e)
same_index slots (place_of k) (count_of j) e = absurd (false≢true e)
same_index slots (place_of k) the_moment e = absurd (false≢true e)
same_index slots the_moment (entry_of j) e = absurd (false≢true e)
same_index slots the_moment (count_of j) e = absurd (false≢true e)
same_index slots the_moment (place_of j) e = absurd (false≢true e)

other_index : (slots places : ℕ) (x y : Word) → IsWord slots places x → IsWord slots places y → same_word y x ≡ false → index_of slots y ≢ index_of slots x
other_index slots places (entry_of k) (entry_of j) h h' e i = let ne : j ≢ k = eqb-false j k e in ne (omega arith)
other_index slots places (count_of k) (count_of j) h h' e i = let ne : j ≢ k = eqb-false j k e in ne (omega arith)
other_index slots places (place_of k) (place_of j) h h' e i = let ne : j ≢ k = eqb-false j k e in ne (omega arith)
other_index slots places the_moment the_moment h h' e i = absurd (false≢true (sym e))
other_index slots places (entry_of k) (count_of j) h h' e i = omega arith
other_index slots places (entry_of k) (place_of j) h h' e i = omega arith
other_index slots places (entry_of k) the_moment h h' e i = omega arith
other_index slots places (count_of k) (entry_of j) h h' e i = omega arith
other_index slots places (count_of k) (place_of j) h h' e i = omega arith
other_index slots places (count_of k) the_moment h h' e i = omega arith
other_index slots places (place_of k) (entry_of j) h h' e i = omega arith
other_index slots places (place_of k) (count_of j) h h' e i = omega arith
other_index slots places (place_of k) the_moment h h' e i = omega arith
other_index slots places the_moment (entry_of j) h h' e i = omega arith
other_index slots places the_moment (count_of j) h h' e i = omega arith
other_index slots places the_moment (place_of j) h h' e i = omega arith

-- all but the entries, which lie side by side, lie a cache line from the other words and from both ends
pub words_apart : WordsApart
words_apart slots places (entry_of k) y h h' ne entry = absurd (entry tt)
words_apart slots places (count_of k) (entry_of j) h h' ne entry = inr (omega arith)
words_apart slots places (count_of k) (count_of j) h h' ne entry = dite (ℕ_discrete k j) (λ e. absurd (ne (ap count_of e))) (λ d. far (24 + slots) k j d)
words_apart slots places (count_of k) (place_of j) h h' ne entry = inl (omega arith)
words_apart slots places (count_of k) the_moment h h' ne entry = inr (omega arith)
words_apart slots places (place_of k) (entry_of j) h h' ne entry = inr (omega arith)
words_apart slots places (place_of k) (count_of j) h h' ne entry = inr (omega arith)
words_apart slots places (place_of k) (place_of j) h h' ne entry = dite (ℕ_discrete k j) (λ e. absurd (ne (ap place_of e))) (λ d. far (24 + 9 * slots) k j d)
words_apart slots places (place_of k) the_moment h h' ne entry = inr (omega arith)
words_apart slots places the_moment (entry_of j) h h' ne entry = inl (omega arith)
words_apart slots places the_moment (count_of j) h h' ne entry = inl (omega arith)
words_apart slots places the_moment (place_of j) h h' ne entry = inl (omega arith)
words_apart slots places the_moment the_moment h h' ne entry = absurd (ne refl)

pub words_inside : WordsInside
words_inside slots places (entry_of k) h = (omega arith, omega arith)
words_inside slots places (count_of k) h = (omega arith, omega arith)
words_inside slots places (place_of p) h = (omega arith, omega arith)
words_inside slots places the_moment h = (omega arith, omega arith)

-- the words after the word x was set
pub written_in : (slots places : ℕ) (ws : List ℕ) (x : Word) (m n : ℕ) → length ws ≡ words_at slots places → IsWord slots places x → m ≡ n
    → (y : Word) → IsWord slots places y → word_in slots (set ws (index_of slots x) m) y ≡ written x n (word_in slots ws) y
written_in slots places ws x m n wide h same y h' = by (same_word y x) refl
  where
    by : (b : Bool) → same_word y x ≡ b → word_in slots (set ws (index_of slots x) m) y ≡ cond b n (word_in slots ws y)
    by true e = let i : index_of slots y ≡ index_of slots x = same_index slots x y e in let low = index_low slots places x h in
        ap (λ j. get_or (set ws (index_of slots x) m) j 0) i ∙ (get_or-set_same ws (index_of slots x) m 0 (omega arith) ∙ same)
    by false e = get_or-set_other ws (index_of slots x) (index_of slots y) m 0 (other_index slots places x y h h' e)

-- a load leaves all words
pub loaded_in : (slots places : ℕ) (ws : List ℕ) (x : Word) → (y : Word) → IsWord slots places y → word_in slots (set ws (index_of slots x) (word_in slots ws x)) y ≡ word_in slots ws y
loaded_in slots places ws x y h = ap (λ l. word_in slots l y) (set-get_or ws (index_of slots x) 0)
