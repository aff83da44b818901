-- Berths are made from the last place down, and turned round.
use Rattle.std.proofs.Common.{◌≡◌, ℕ, zero, suc, ◌+◌, ◌-◌, ◌<◌, List, [], ◌∷◌, ◌++◌, length, reverse, arith}
use Rattle.std.specs.Prelude.{slice_index_or}
use Rattle.std.proofs.lemmas.List.{get_or-reverse, length-reverse}
use Rattle.thread_list.specs.Sharing.{AreInOrder}

-- each is one less than the one before it, the first than this
abbrev pub AreDownFrom : ℕ → List ℕ → Type 0
AreDownFrom n [] = Unit {0}
AreDownFrom n (b ∷ bs) = (b + 1 ≡ n) × AreDownFrom b bs

pub down_push : (n p : ℕ) (bs : List ℕ) → AreDownFrom n bs → p + length bs + 1 ≡ n → AreDownFrom n (bs ++ p ∷ [])
down_push n p [] down last = (omega (arith, last), tt)
down_push n p (b ∷ bs) down last = (down.0, down_push b p bs down.1 (let e = down.0 in omega (arith, last)))

down_at : (n : ℕ) (bs : List ℕ) (i d : ℕ) → AreDownFrom n bs → i < length bs → slice_index_or bs i d + i + 1 ≡ n
down_at n [] i d down low = absurd (omega arith)
down_at n (b ∷ bs) zero d down low = let e = down.0 in omega arith
down_at n (b ∷ bs) (suc i) d down low = let e = down.0 in let r = down_at b bs i d down.1 (omega arith) in omega arith

pub turned : (n : ℕ) (bs : List ℕ) → AreDownFrom n bs → length bs ≡ n → AreInOrder (reverse bs)
turned n bs down many k d low =
    let small : k < length bs = omega (arith, length-reverse bs) in
    let at = down_at n bs (length bs - 1 - k) d down (omega arith) in
    let same = get_or-reverse bs k d small in
    omega arith
