-- The least code of a list is below all others, and there is one at most. Of definitions alone: crates above may cite these lemmas.
use Rattle.std.proofs.Common.{◌≡◌, ℕ, ◌+◌, ◌<◌, ◌∙◌, Bool, true, false, List, [], ◌∷◌, ◌++◌, append_assoc, append-nil, Option, Some, None, refl, ap, subst, cond, arith}
use Rattle.std.specs.Prelude.{fold}
use Rattle.std.proofs.lemmas.Bool.Decides.{nat_tests}
use Rattle.frames.specs.declared.CodeId.{CodeId}
use Rattle.frames.specs.Stack.{same_code, code_lt, times}
use Rattle.frames.specs.Least.{lesser, least}
use Rattle.frames.proofs.Bags.{same_code-equal, same_code-refl, times-cons, times-append}

pub code_lt-irrefl : (a : CodeId) → code_lt a a ≡ false
code_lt-irrefl a = grind (arith, nat_tests)

pub code_lt-back : (a b c : CodeId) → code_lt a b ≡ true → code_lt c b ≡ false → code_lt c a ≡ false
code_lt-back a b c h k = grind (arith, nat_tests)

pub code_lt-total : (a b : CodeId) → code_lt a b ≡ false → code_lt b a ≡ false → a ≡ b
code_lt-total a b h k = same_code-equal a b (grind (arith, nat_tests))

-- the option is the least of the list
abbrev pub IsLeast : List CodeId → Option CodeId → Type 0
IsLeast codes None = (code : CodeId) → times code codes ≡ 0
IsLeast codes (Some best) = (0 < times best codes) × ((code : CodeId) → 0 < times code codes → code_lt code best ≡ false)

times-push : (code x : CodeId) (xs : List CodeId) → times code (xs ++ x ∷ []) ≡ times code xs + cond (same_code x code) 1 0
times-push code x xs = times-append code xs (x ∷ []) ∙ ap (λ n. times code xs + n) (times-cons code x [] ∙ omega arith)

one_more : (n : ℕ) (b : Bool) → b ≡ true → 0 < n + cond b 1 0
one_more n b h = grind arith

here_at_none : (n : ℕ) (b : Bool) → n ≡ 0 → 0 < n + cond b 1 0 → b ≡ true
here_at_none n true z h = refl
here_at_none n false z h = absurd (omega arith)

grows : (n : ℕ) (b : Bool) → 0 < n → 0 < n + cond b 1 0
grows n b h = omega arith

not_self : (x code : CodeId) → same_code x code ≡ true → code_lt code x ≡ false
not_self x code h = let P : CodeId → Type 0 = λ c. code_lt c x ≡ false in subst P (same_code-equal x code h) (code_lt-irrefl x)

-- a code of the longer list that isn't above is the new one or was there
below_or_new : (x code bound : CodeId) (xs : List CodeId) (b : Bool) → same_code x code ≡ b → (0 < times code xs → code_lt code bound ≡ false) → code_lt x bound ≡ false → 0 < times code xs + cond b 1 0 → code_lt code bound ≡ false
below_or_new x code bound xs true e old new h = let P : CodeId → Type 0 = λ c. code_lt c bound ≡ false in subst P (same_code-equal x code e) new
below_or_new x code bound xs false e old new h = old (omega arith)

keep_or_take : (x best : CodeId) (xs : List CodeId) (b : Bool) → code_lt x best ≡ b → IsLeast xs (Some best) → IsLeast (xs ++ x ∷ []) (cond b (Some x) (Some best))
keep_or_take x best xs true less h = (
  rw times-push (one_more (times x xs) (same_code x x) (same_code-refl x)),
  λ code in_it. below_or_new x code x xs (same_code x code) refl (λ k. code_lt-back x best code less (h.1 code k)) (code_lt-irrefl x) (rw times-push at in_it),
)
keep_or_take x best xs false less h = (
  rw times-push (grows (times best xs) (same_code x best) h.0),
  λ code in_it. below_or_new x code best xs (same_code x code) refl (λ k. h.1 code k) less (rw times-push at in_it),
)

lesser-least : (xs : List CodeId) (best : Option CodeId) (x : CodeId) → IsLeast xs best → IsLeast (xs ++ x ∷ []) (lesser best x)
lesser-least xs None x h = (
  rw times-push (one_more (times x xs) (same_code x x) (same_code-refl x)),
  λ code in_it. not_self x code (here_at_none (times code xs) (same_code x code) (h code) (rw times-push at in_it)),
)
lesser-least xs (Some best) x h = keep_or_take x best xs (code_lt x best) refl h

fold-least : (xs ys : List CodeId) (best : Option CodeId) → IsLeast xs best → IsLeast (xs ++ ys) (fold lesser best ys)
fold-least xs [] best h = rw append-nil h
fold-least xs (y ∷ ys) best h = rw (← append_assoc xs (y ∷ []) ys) (fold-least (xs ++ y ∷ []) ys (lesser best y) (lesser-least xs best y h))

pub least-is_least : (xs : List CodeId) → IsLeast xs (least xs)
least-is_least xs = fold-least [] xs None (λ code. refl)

-- lists of the same codes have the same least one
pub least-unique : (xs ys : List CodeId) (a b : Option CodeId) → ((code : CodeId) → 0 < times code xs → 0 < times code ys) → ((code : CodeId) → 0 < times code ys → 0 < times code xs) → IsLeast xs a → IsLeast ys b → a ≡ b
least-unique xs ys None None to back h k = refl
least-unique xs ys None (Some b) to back h k = let in_it : 0 < times b xs = back b k.0 in let none : times b xs ≡ 0 = h b in absurd (omega arith)
least-unique xs ys (Some a) None to back h k = let in_it : 0 < times a ys = to a h.0 in let none : times a ys ≡ 0 = k a in absurd (omega arith)
least-unique xs ys (Some a) (Some b) to back h k = ap Some (code_lt-total a b (k.1 a (to a h.0)) (h.1 b (back b k.0)))
