-- Words behind the first of a command line, one more at a time.
use Rattle.std.proofs.Common.{◌≡◌, ◌∙◌, ◌+◌, ◌++◌, ℕ, suc, List, [], ◌∷◌, Option, Some, None, length, drop, append_assoc, refl, ap, sym, arith}
use Rattle.std.proofs.lemmas.List.{append-nil}
use Rattle.std.specs.Prelude.{IfSome, slice_get}

-- These are the first words behind the first of all.
abbrev pub Begins : List (List ℕ) → List (List ℕ) → Type 0
Begins first all = (rest : List (List ℕ)) × (drop 1 all ≡ first ++ rest)

behind : (all : List (List ℕ)) (k : ℕ) → slice_get all (suc k) ≡ slice_get (drop 1 all) k
behind [] k = refl
behind (x ∷ xs) k = refl

some_is : (v w : List ℕ) → Some v ≡ Some w → v ≡ w
some_is v w e = cc e

at_end : (first rest : List (List ℕ)) → None ≡ slice_get (first ++ rest) (length first) → rest ≡ []
at_end [] [] e = refl
at_end [] (y ∷ rest) e = absurd (let no : None ≡ Some y = e in cc)
at_end (x ∷ first) rest e = at_end first rest e

at_next : (first rest : List (List ℕ)) (w : List ℕ) → Some w ≡ slice_get (first ++ rest) (length first) → (more : List (List ℕ)) × (rest ≡ w ∷ more)
at_next [] [] w e = absurd (let no : Some w ≡ None = e in cc)
at_next [] (y ∷ rest) w e = (rest, ap (λ v. v ∷ rest) (sym (some_is w y e)))
at_next (x ∷ first) rest w e = at_next first rest w e

-- the word of that number is the next of the rest
next_is : (first all rest : List (List ℕ)) (w : Option (List ℕ)) (k : ℕ) → drop 1 all ≡ first ++ rest → length first ≡ k → w ≡ slice_get all (k + 1)
    → w ≡ slice_get (first ++ rest) (length first)
next_is first all rest w k is long e =
    let one : k + 1 ≡ suc (length first) = omega (arith, long) in
    e ∙ ap (λ n. slice_get all n) one ∙ behind all (length first) ∙ ap (λ ws. slice_get ws (length first)) is

-- where none is there they are all
all_begun : (first all : List (List ℕ)) (k : ℕ) → length first ≡ k → Begins first all → None ≡ slice_get all (k + 1) → first ≡ drop 1 all
all_begun first all k long (rest, is) e =
    sym (is ∙ ap (λ ws. first ++ ws) (at_end first rest (next_is first all rest None k is long e)) ∙ append-nil first)

more_begun : (first all : List (List ℕ)) (w : List ℕ) (k : ℕ) → length first ≡ k → Begins first all → Some w ≡ slice_get all (k + 1) → Begins (first ++ w ∷ []) all
more_begun first all w k long (rest, is) e =
    let (more, next) = at_next first rest w (next_is first all rest (Some w) k is long e) in
    (more, is ∙ ap (λ ws. first ++ ws) next ∙ sym (append_assoc first (w ∷ []) more))

-- all words were read of a command line that tells its words; one that doesn't tell them says nothing
pub all_words : (known : Option (List (List ℕ))) (first : List (List ℕ)) (k : ℕ) → length first ≡ k → IfSome known (λ all. Begins first all)
    → IfSome known (λ all. None ≡ slice_get all (k + 1)) → IfSome known (λ all. first ≡ drop 1 all)
all_words None first k long b e = tt
all_words (Some all) first k long b e = all_begun first all k long b e

pub more_words : (known : Option (List (List ℕ))) (first : List (List ℕ)) (w : List ℕ) (k : ℕ) → length first ≡ k → IfSome known (λ all. Begins first all)
    → IfSome known (λ all. Some w ≡ slice_get all (k + 1)) → IfSome known (λ all. Begins (first ++ w ∷ []) all)
more_words None first w k long b e = tt
more_words (Some all) first w k long b e = more_begun first all w k long b e

pub no_words : (known : Option (List (List ℕ))) → IfSome known (λ all. Begins [] all)
no_words None = tt
no_words (Some all) = (drop 1 all, refl)
