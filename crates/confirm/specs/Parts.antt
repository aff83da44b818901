-- A text, cut at a byte, and at the line `order`.
use Rattle.std.specs.Prelude.{◌≡◌, ℕ, ◌==◌, ◌+◌, Bool, true, not, ◌&&◌, option_map, take, drop, bytes_eq, codes, List, [], ◌∷◌, ◌++◌, Option, None}
use Rattle.std.specs.List.{flat_map, list_all, position}

-- The parts before and after the first such byte.
abbrev pub cut : ℕ → List ℕ → Option (List ℕ × List ℕ)
cut byte bytes = option_map (λ at. (take at bytes, drop (at + 1) bytes)) (position (λ b. b == byte) bytes)

-- Lines, each with its newline.
abbrev pub whole_lines : List (List ℕ) → List ℕ
whole_lines lines = flat_map (λ line. line ++ 10 ∷ []) lines

-- The text is one line without a newline in it, and not `order`.
abbrev pub is_other : List ℕ → Bool
is_other line = list_all (λ b. not (b == 10)) line && not (bytes_eq line (codes "order"))

-- The text is whole lines, none of which is `order`.
pub record AreOthers (text : List ℕ) : Type 0 where
  pub lines : List (List ℕ)
  pub text_is : text ≡ whole_lines lines
  pub others : list_all is_other lines ≡ true

-- The text is these two parts with its first line `order` between them.
pub record IsParted (text before behind : List ℕ) : Type 0 where
  pub others : AreOthers before
  pub text_is : text ≡ before ++ (codes "order\n" ++ behind)

-- No whole line of the text is `order`.
pub record LacksOrder (text : List ℕ) : Type 0 where
  pub before : List ℕ
  pub rest : List ℕ
  pub others : AreOthers before
  pub text_is : text ≡ before ++ rest
  pub uncut : cut 10 rest ≡ None
