-- One line more is told.
use Rattle.std.proofs.Common.{◌≡◌, ℕ, ◌+◌, ◌∙◌, sym, Bool, true, false, List, [], ◌∷◌, ◌++◌, length, refl, ap, cond, add-zero, length-append, arith}
use Rattle.run_picture.specs.declared.part.Part.{Part}
use Rattle.run_picture.specs.Told.{Told, Shown, Seen, IsTold, is_drawn, drawn_from, grown}

cons_in : (d : Bool) (first : Shown) (xs ys : List Shown) → cond d (first ∷ xs) (first ∷ ys) ≡ first ∷ cond d xs ys
cons_in true first xs ys = refl
cons_in false first xs ys = refl

-- A first line that is drawn or not changes nothing in what comes behind it.
behind_first : (d : Bool) (part : Part) (line : ℕ) (told : Told) (first : Shown) (old new : List Shown) → new ≡ grown part line told old → cond d (first ∷ new) new ≡ grown part line told (cond d (first ∷ old) old)
behind_first true part line told first old new e = ap (λ z. first ∷ z) e ∙ sym (cons_in (is_drawn part line) first (old ++ record { line = line; told = told } ∷ []) old)
behind_first false part line told first old new e = e

drawn_more : (part : Part) (n : ℕ) (all : List Told) (told : Told) → drawn_from part n (all ++ told ∷ []) ≡ grown part (n + length all) told (drawn_from part n all)
drawn_more part n [] told = ap (λ k. grown part k told []) (sym (add-zero n))
drawn_more part n (first ∷ all) told =
    let there : (n + 1) + length all ≡ n + length (first ∷ all) = omega arith in
    behind_first (is_drawn part n) part ((n + 1) + length all) told (record { line = n; told = first }) (drawn_from part (n + 1) all) (drawn_from part (n + 1) (all ++ told ∷ [])) (drawn_more part (n + 1) all told)
    ∙ ap (λ k. grown part k told (drawn_from part n (first ∷ all))) there

pub told_one : (part : Part) (old new : Seen) (all : List Told) (told : Told) → new.part ≡ old.part → new.lines ≡ old.lines + 1 → new.shown ≡ grown old.part (old.lines + 1) told old.shown → IsTold part old all → IsTold part new (all ++ told ∷ [])
told_one part old new all told same lines shown is =
    let next : old.lines + 1 ≡ 1 + length all = omega (arith, is.lines) in
    record {
      same = same ∙ is.same;
      lines = lines ∙ ap (λ n. n + 1) is.lines ∙ sym (length-append all (told ∷ []));
      shown = shown ∙ ap (λ p. grown p (old.lines + 1) told old.shown) is.same ∙ ap (λ n. grown part n told old.shown) next ∙ ap (λ z. grown part (1 + length all) told z) is.shown
          ∙ sym (drawn_more part 1 all told);
    }
