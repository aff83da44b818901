-- What was read, piece after piece.
use Rattle.std.proofs.Common.{◌≡◌, ◌≢◌, ◌∙◌, ℕ, zero, suc, ◌+◌, ◌≤◌, ◌==◌, cond, false, List, ◌++◌, length, take, drop, Option, Some, None, refl, sym, ap, subst, append_assoc, arith}
use Rattle.std.proofs.Math.Seq.{take-append_seam}
use Rattle.std.proofs.lemmas.List.{length-take-le, append-nil}
use Rattle.std.specs.Io.KnownBytes.{Consumes, IsAtEnd}
use Rattle.confirm.specs.Ran.{ReadsWhole}

pub taken_on : (a b c : Option (List ℕ)) (x y : List ℕ) → Consumes a b x → Consumes b c y → Consumes a c (x ++ y)
taken_on None b c x y h k = tt
taken_on (Some a) None c x y h k = absurd h
taken_on (Some a) (Some b) None x y h k = absurd k
taken_on (Some a) (Some b) (Some c) x y h k = h ∙ ap (λ z. x ++ z) k ∙ sym (append_assoc x y c)

-- a read that gave nothing is at the end
pub all_taken : (a b c : Option (List ℕ)) (x buf : List ℕ) (n : ℕ) → Consumes a b x → n ≡ 0 → Consumes b c (take n buf) → IsAtEnd c → ReadsWhole a c x
all_taken a b c x buf n h e k end =
    (subst (λ (z : List ℕ). Consumes a c z) (ap (λ (m : ℕ). x ++ take m buf) e ∙ append-nil x) (taken_on a b c x (take n buf) h k), end)

-- the block behind a read: what is taken of it is what was read
pub block_is : (buf items : List ℕ) (len : ℕ) → length buf ≡ len → take len (buf ++ drop (length buf) items) ≡ buf
block_is buf items len e = ap (λ k. take k (buf ++ drop (length buf) items)) (sym e) ∙ take-append_seam buf (drop (length buf) items)

-- a read that gave bytes is one more
pub more_read : (n before after text more : ℕ) (buf : List ℕ) → n ≢ 0 → after ≡ cond (n == 0) before (before + 1) → before ≤ text → n ≤ length buf → more ≡ text + length (take n buf) → after ≤ more
more_read zero before after text more buf some e f b g = absurd (some refl)
more_read (suc n) before after text more buf some e f b g =
    let no : (suc n == 0) ≡ false = grind arith in
    let one : after ≡ before + 1 = e ∙ ap (λ b. cond b before (before + 1)) no in
    omega (arith, one, f, g, length-take-le (suc n) buf b)
