-- The codes whose counts differ in a stack and in a bag, of definitions alone: crates above may cite these lemmas.
use Rattle.std.proofs.Common.{◌≡◌, ◌≢◌, ℕ, ◌+◌, ◌<◌, ◌∙◌, sym, not, eqb, List, ◌++◌, None, ap, subst, cond, arith}
use Rattle.std.proofs.lemmas.Bool.Decides.{nat_tests}
use Rattle.frames.specs.declared.CodeId.{CodeId}
use Rattle.frames.specs.declared.Frame.{Frame}
use Rattle.frames.specs.Stack.{act, codes_of, times}
use Rattle.frames.specs.ImageView.{ImageView, is_uncounted, uncounted, next_code, IsCounted}
use Rattle.frames.proofs.Bags.{times-filter, times-append, times-codes_of}
use Rattle.frames.proofs.Ordered.{IsLeast, least-is_least}

pub times-uncounted : (frames : List Frame) (counted : List CodeId) (code : CodeId) → times code (uncounted frames counted) ≡ cond (not (eqb (act code frames) (times code counted))) (act code frames + times code counted) 0
times-uncounted frames counted code =
    times-filter (is_uncounted frames counted) code (codes_of frames ++ counted)
    ∙ ap (λ n. cond (is_uncounted frames counted code) n 0) (times-append code (codes_of frames) counted ∙ ap (λ n. n + times code counted) (times-codes_of code frames))

pub same_none : (m n : ℕ) → m ≡ n → cond (not (eqb m n)) (m + n) 0 ≡ 0
same_none m n e = grind (arith, nat_tests)

pub differ_some : (m n : ℕ) → 0 < cond (not (eqb m n)) (m + n) 0 → m ≢ n
differ_some m n h e = grind (arith, nat_tests)

-- where no code is next, every code is counted
pub none_next : (image : ImageView) → next_code image ≡ None → IsCounted image
none_next image e c =
    let none : IsLeast (uncounted image.frames image.counted) None = subst (IsLeast (uncounted image.frames image.counted)) e (least-is_least (uncounted image.frames image.counted)) in
    let z : times c (uncounted image.frames image.counted) ≡ 0 = none c in
    let u : times c (uncounted image.frames image.counted) ≡ cond (not (eqb (act c image.frames) (times c image.counted))) (act c image.frames + times c image.counted) 0 = times-uncounted image.frames image.counted c in
    none_of (act c image.frames) (times c image.counted) (sym u ∙ z)
  where
    none_of : (m n : ℕ) → cond (not (eqb m n)) (m + n) 0 ≡ 0 → m ≡ n
    none_of m n h = grind (arith, nat_tests)
