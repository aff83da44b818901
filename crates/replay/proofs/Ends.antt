-- The first newline, as a search of bytes finds it.
use Rattle.std.proofs.Common.{◌≡◌, ℕ, ◌+◌, ◌<◌, ◌≤◌, ◌∙◌, suc, zero, Bool, List, [], ◌∷◌, length, take, refl, sym, cond, not, arith, true, false}
use Rattle.std.specs.Prelude.{◌==◌, nat_lt, slice_index}
use Rattle.std.specs.List.{prefix_len}
use Rattle.std.proofs.lemmas.Bool.{false≢true}
use Rattle.memchr.specs.Find.{is_byte, places}
use Rattle.memchr.proofs.lemmas.PlaceLemmas.{places_between-first, places_between-none}
use Rattle.replay.specs.Scanned.{first_at}

-- No byte before the first is one.
none_before : (byte : ℕ) (bytes : List ℕ) (k : ℕ) → k < first_at byte bytes → (slice_index bytes k == byte) ≡ true → ⊥
none_before byte [] k below is = absurd (omega (arith, below))
none_before byte (b ∷ bytes) k below is = by_test (b == byte) refl k below is (λ k below is. none_before byte bytes k below is)
  where
    by_test : (t : Bool) → (b == byte) ≡ t → (k : ℕ) → k < cond t 0 (suc (first_at byte bytes)) → (slice_index (b ∷ bytes) k == byte) ≡ true
        → ((k : ℕ) → k < first_at byte bytes → (slice_index bytes k == byte) ≡ true → ⊥) → ⊥
    by_test true e k below is later = omega (arith, below)
    by_test false e zero below is later = false≢true (sym e ∙ is)
    by_test false e (suc k) below is later = later k (omega (arith, below)) is

first_is : (byte : ℕ) (bytes : List ℕ) → first_at byte bytes < length bytes → (slice_index bytes (first_at byte bytes) == byte) ≡ true
first_is byte [] below = absurd (omega (arith, below))
first_is byte (b ∷ bytes) below = by_test (b == byte) refl below (λ below. first_is byte bytes below)
  where
    by_test : (t : Bool) → (b == byte) ≡ t → cond t 0 (suc (first_at byte bytes)) < length (b ∷ bytes)
        → (first_at byte bytes < length bytes → (slice_index bytes (first_at byte bytes) == byte) ≡ true)
        → (slice_index (b ∷ bytes) (cond t 0 (suc (first_at byte bytes))) == byte) ≡ true
    by_test true e below later = e
    by_test false e below later = later (omega (arith, below))

pub first_within : (byte : ℕ) (bytes : List ℕ) → first_at byte bytes ≤ length bytes
first_within byte [] = omega arith
first_within byte (b ∷ bytes) = by_test (b == byte) (first_within byte bytes)
  where
    by_test : (t : Bool) → first_at byte bytes ≤ length bytes → cond t 0 (suc (first_at byte bytes)) ≤ length (b ∷ bytes)
    by_test true h = omega arith
    by_test false h = omega (arith, h)

-- The places of a byte begin with the first.
places_begin : (byte : ℕ) (bytes : List ℕ) → first_at byte bytes < length bytes → (rest : List ℕ) × (places (is_byte byte) bytes ≡ first_at byte bytes ∷ rest)
places_begin byte bytes below = (
  _,
  places_between-first (is_byte byte) bytes 0 (length bytes) (first_at byte bytes) (record {
    low = omega arith;
    high = below;
    before = λ k low high is. none_before byte bytes k high is;
  }) (first_is byte bytes below),
)

pub first_some : (byte : ℕ) (bytes : List ℕ) (at : ℕ) (rest : List ℕ) → places (is_byte byte) bytes ≡ at ∷ rest → first_at byte bytes ≡ at
first_some byte bytes at rest e = by_test (nat_lt (first_at byte bytes) (length bytes)) refl
  where
    by_test : (t : Bool) → nat_lt (first_at byte bytes) (length bytes) ≡ t → first_at byte bytes ≡ at
    by_test true below = let begin = places_begin byte bytes (grind (arith, below)) in cc (sym begin.1 ∙ e)
    by_test false past =
        let none = places_between-none (is_byte byte) bytes 0 (length bytes) (omega arith) (λ k low high is. none_before byte bytes k (grind (arith, past, high)) is) in
        absurd (cc (sym none ∙ e))

pub first_none : (byte : ℕ) (bytes : List ℕ) → places (is_byte byte) bytes ≡ [] → first_at byte bytes ≡ length bytes
first_none byte bytes e = by_test (nat_lt (first_at byte bytes) (length bytes)) refl
  where
    by_test : (t : Bool) → nat_lt (first_at byte bytes) (length bytes) ≡ t → first_at byte bytes ≡ length bytes
    by_test true below = let begin = places_begin byte bytes (grind (arith, below)) in absurd (cc (sym begin.1 ∙ e))
    by_test false past = grind (arith, past, first_within byte bytes)

-- The first newline, where it stands in a beginning.
near_in : (n : ℕ) (bytes : List ℕ) → prefix_len (λ b. not (b == 10)) (take n bytes) < n → n ≤ length bytes → prefix_len (λ b. not (b == 10)) (take n bytes) ≡ first_at 10 bytes
near_in zero bytes below room = absurd (omega (arith, below))
near_in (suc n) [] below room = absurd (omega (arith, room))
near_in (suc n) (b ∷ bytes) below room = by_test (b == 10) below (λ less. near_in n bytes less (omega (arith, room)))
  where
    by_test : (t : Bool) → cond (not t) (1 + prefix_len (λ b. not (b == 10)) (take n bytes)) 0 < suc n
        → (prefix_len (λ b. not (b == 10)) (take n bytes) < n → prefix_len (λ b. not (b == 10)) (take n bytes) ≡ first_at 10 bytes)
        → cond (not t) (1 + prefix_len (λ b. not (b == 10)) (take n bytes)) 0 ≡ cond t 0 (suc (first_at 10 bytes))
    by_test true below more = refl
    by_test false below more = let same = more (omega (arith, below)) in omega (arith, same)

pub end_near : (bytes : List ℕ) (near : ℕ) → 16 ≤ length bytes → near ≡ prefix_len (λ b. not (b == 10)) (take 16 bytes) → near < 16 → near ≡ first_at 10 bytes
end_near bytes near room counted below = counted ∙ near_in 16 bytes (omega (arith, counted, below)) room
