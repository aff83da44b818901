-- A bag that is a part of another has no more elements.
use Rattle.std.proofs.Common.{◌≡◌, ℕ, zero, suc, ◌+◌, ◌<◌, ◌≤◌, ◌∙◌, sym, Bool, true, false, not, List, [], ◌∷◌, length, refl, ap, cond, arith}
use Rattle.std.specs.Prelude.{filter}
use Rattle.frames.specs.declared.CodeId.{CodeId}
use Rattle.frames.specs.Stack.{same_code, times}
use Rattle.frames.proofs.Bags.{same_code-refl, times-cons, times-filter}

apart_step : (b : Bool) (x : CodeId) (rest : List CodeId) (n t : ℕ) → n ≡ t + length rest → suc n ≡ (cond b 1 0 + t) + length (cond (not b) (x ∷ rest) rest)
apart_step true x rest n t e = omega arith
apart_step false x rest n t e = omega arith

-- a bag is one of its codes and the others
pub apart : (c : CodeId) (xs : List CodeId) → length xs ≡ times c xs + length (filter (λ d. not (same_code d c)) xs)
apart c [] = refl
apart c (x ∷ xs) =
    apart_step (same_code x c) x (filter (λ d. not (same_code d c)) xs) (length xs) (times c xs) (apart c xs)
    ∙ ap (λ t. t + length (filter (λ d. not (same_code d c)) (x ∷ xs))) (sym (times-cons c x xs))

has_itself : (x : CodeId) (xs : List CodeId) → 0 < times x (x ∷ xs)
has_itself x xs =
    let all : times x (x ∷ xs) ≡ cond (same_code x x) 1 0 + times x xs = times-cons x x xs in
    let one : cond {A = ℕ} (same_code x x) 1 0 ≡ 1 = ap (λ b. cond {A = ℕ} b 1 0) (same_code-refl x) in omega arith

nothing_in : (xs : List CodeId) → ((c : CodeId) → times c xs ≤ 0) → length xs ≤ 0
nothing_in [] h = omega arith
nothing_in (x ∷ xs) h = let some = has_itself x xs in let none = h x in absurd (omega arith)

part_where : (b : Bool) (m n : ℕ) → m ≤ n → cond b m 0 ≤ cond b n 0
part_where true m n h = h
part_where false m n h = omega arith

part_filter : (p : CodeId → Bool) (xs ys : List CodeId) → ((c : CodeId) → times c xs ≤ times c ys) → (c : CodeId) → times c (filter p xs) ≤ times c (filter p ys)
part_filter p xs ys part c =
    let a : times c (filter p xs) ≡ cond (p c) (times c xs) 0 = times-filter p c xs in
    let b : times c (filter p ys) ≡ cond (p c) (times c ys) 0 = times-filter p c ys in
    let w : cond (p c) (times c xs) 0 ≤ cond (p c) (times c ys) 0 = part_where (p c) (times c xs) (times c ys) (part c) in omega arith

pub part_fits : (n : ℕ) (xs ys : List CodeId) → length ys ≤ n → ((c : CodeId) → times c xs ≤ times c ys) → length xs ≤ length ys
part_fits n xs [] h part = nothing_in xs part
part_fits zero xs (y ∷ ys) h part = absurd (omega arith)
part_fits (suc n) xs (y ∷ ys) h part =
    let p : CodeId → Bool = λ d. not (same_code d y) in
    let a : length xs ≡ times y xs + length (filter p xs) = apart y xs in
    let b : length (y ∷ ys) ≡ times y (y ∷ ys) + length (filter p (y ∷ ys)) = apart y (y ∷ ys) in
    let some : 0 < times y (y ∷ ys) = has_itself y ys in
    let mine : times y xs ≤ times y (y ∷ ys) = part y in
    let rest : length (filter p xs) ≤ length (filter p (y ∷ ys)) = part_fits n (filter p xs) (filter p (y ∷ ys)) (omega arith) (part_filter p xs (y ∷ ys) part) in omega arith
