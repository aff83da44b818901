-- How often a code is in a bag, of definitions alone: crates above may cite these lemmas.
use Rattle.std.proofs.Common.{◌≡◌, ℕ, ◌+◌, ◌∙◌, sym, Bool, true, false, not, ◌||◌, eqb, List, [], ◌∷◌, ◌++◌, Option, Some, None, refl, ap, ap₂, cond, arith}
use Rattle.std.proofs.lemmas.List.Sums.{sum_by-cons, sum_by-append}
use Rattle.std.specs.Prelude.{filter}
use Rattle.std.proofs.lemmas.Bool.Decides.{nat_tests}
use Rattle.frames.specs.declared.CodeId.{CodeId}
use Rattle.frames.specs.declared.Frame.{Frame}
use Rattle.frames.specs.Stack.{same_code, is_code, is_of, act, code_or, codes_of, times, is_among}

pub same_code-equal : (a b : CodeId) → same_code a b ≡ true → a ≡ b
same_code-equal a b h =
    let serial : a.serial ≡ b.serial = grind (arith, nat_tests) in
    let slot : a.slot ≡ b.slot = grind (arith, nat_tests) in
    let code : ℕ → ℕ → CodeId = λ slot serial. record { slot = slot; serial = serial } in
    ap₂ code slot serial

pub same_code-refl : (a : CodeId) → same_code a a ≡ true
same_code-refl a = grind (arith, nat_tests)

pub times-cons : (code x : CodeId) (xs : List CodeId) → times code (x ∷ xs) ≡ cond (same_code x code) 1 0 + times code xs
times-cons code x xs = sum_by-cons (λ other. cond (same_code other code) 1 0) x xs

pub act-cons : (code : CodeId) (f : Frame) (fs : List Frame) → act code (f ∷ fs) ≡ cond (is_of code f) 1 0 + act code fs
act-cons code f fs = sum_by-cons (λ frame. cond (is_of code frame) 1 0) f fs

pub times-append : (code : CodeId) (xs ys : List CodeId) → times code (xs ++ ys) ≡ times code xs + times code ys
times-append code xs ys = sum_by-append (λ other. cond (same_code other code) 1 0) xs ys

times-code_or : (code : CodeId) (o : Option CodeId) (cs : List CodeId) → times code (code_or o cs) ≡ cond (is_code code o) 1 0 + times code cs
times-code_or code None cs = omega arith
times-code_or code (Some other) cs = times-cons code other cs

pub times-codes_of : (code : CodeId) (frames : List Frame) → times code (codes_of frames) ≡ act code frames
times-codes_of code [] = refl
times-codes_of code (f ∷ fs) = times-code_or code f.code (codes_of fs) ∙ (ap (λ n. cond (is_of code f) 1 0 + n) (times-codes_of code fs) ∙ sym (act-cons code f fs))

same_pass : (p : CodeId → Bool) (a b : CodeId) → same_code a b ≡ true → p a ≡ p b
same_pass p a b h = ap p (same_code-equal a b h)

filtered_step : (b s q : Bool) (t n : ℕ) → (s ≡ true → b ≡ q) → t ≡ cond q n 0 → cond b (cond s 1 0 + t) t ≡ cond q (cond s 1 0 + n) 0
filtered_step true true true t n same e = ap (λ m. 1 + m) e
filtered_step true true false t n same e = let h : true ≡ false = same refl in cc
filtered_step true false q t n same e = grind arith
filtered_step false true q t n same e = grind arith
filtered_step false false q t n same e = grind arith

cond_times : (code x : CodeId) (b : Bool) (rest : List CodeId) → times code (cond b (x ∷ rest) rest) ≡ cond b (cond (same_code x code) 1 0 + times code rest) (times code rest)
cond_times code x true rest = times-cons code x rest
cond_times code x false rest = refl

nothing : (b : Bool) → cond {A = ℕ} b 0 0 ≡ 0
nothing true = refl
nothing false = refl

pub times-filter : (p : CodeId → Bool) (code : CodeId) (cs : List CodeId) → times code (filter p cs) ≡ cond (p code) (times code cs) 0
times-filter p code [] = sym (nothing (p code))
times-filter p code (x ∷ xs) =
    cond_times code x (p x) (filter p xs)
    ∙ (filtered_step (p x) (same_code x code) (p code) (times code (filter p xs)) (times code xs) (λ h. same_pass p x code h) (times-filter p code xs)
    ∙ ap (λ n. cond (p code) n 0) (sym (times-cons code x xs)))

among_step : (b : Bool) (n : ℕ) (rest : Bool) → rest ≡ not (eqb n 0) → (b || rest) ≡ not (eqb (cond b 1 0 + n) 0)
among_step true n rest e = grind (arith, nat_tests)
among_step false n rest e = e ∙ ap (λ m. not (eqb m 0)) (omega arith)

-- a code is among those that it is in at least once
pub among-times : (code : CodeId) (xs : List CodeId) → is_among code xs ≡ not (eqb (times code xs) 0)
among-times code [] = refl
among-times code (x ∷ xs) =
    among_step (same_code x code) (times code xs) (is_among code xs) (among-times code xs) ∙ ap (λ n. not (eqb n 0)) (sym (times-cons code x xs))
