-- The lines before the first line `order`.
use Rattle.std.proofs.Common.{◌≡◌, ℕ, ◌∙◌, true, false, not, ◌&&◌, List, [], ◌∷◌, ◌++◌, refl, sym, ap, append_assoc}
use Rattle.std.specs.Prelude.{◌==◌, bytes_eq, codes}
use Rattle.std.specs.List.{list_all}
use Rattle.std.proofs.lemmas.List.{append-nil}
use Rattle.std.proofs.lemmas.List.Folds.{list_all-append}
use Rattle.std.proofs.lemmas.Grind.{flat_map-append}
use Rattle.confirm.specs.Parts.{whole_lines, is_other, AreOthers}

-- Lines of the text were read, and this is left.
pub record Front (text rest : List ℕ) : Type 0 where
  pub before : List ℕ
  pub others : AreOthers before
  pub text_is : text ≡ before ++ rest

pub front_first : (text : List ℕ) → Front text text
front_first text = record { before = []; others = record { lines = []; text_is = refl; others = refl }; text_is = refl }

others_more : (before line : List ℕ) → AreOthers before → list_all (λ b. not (b == 10)) line ≡ true → bytes_eq line (codes "order") ≡ false → AreOthers (before ++ (line ++ 10 ∷ []))
others_more before line others clean other =
    let one : is_other line ≡ true = ap (λ b. b && not (bytes_eq line (codes "order"))) clean ∙ ap not other in
    let last : whole_lines (line ∷ []) ≡ line ++ 10 ∷ [] = append-nil (line ++ 10 ∷ []) in
    record {
      lines = others.lines ++ line ∷ [];
      text_is = ap (λ z. z ++ (line ++ 10 ∷ [])) others.text_is
          ∙ ap (λ z. whole_lines others.lines ++ z) (sym last)
          ∙ sym (flat_map-append (λ x. x ++ 10 ∷ []) others.lines (line ∷ []));
      others = list_all-append is_other others.lines (line ∷ []) ∙ ap (λ b. b && (is_other line && true)) others.others ∙ ap (λ b. b && true) one;
    }

pub front_more : (text rest line behind : List ℕ) → Front text rest → rest ≡ line ++ 10 ∷ behind → list_all (λ b. not (b == 10)) line ≡ true → bytes_eq line (codes "order") ≡ false → Front text behind
front_more text rest line behind front e clean other =
    let over : line ++ 10 ∷ behind ≡ (line ++ 10 ∷ []) ++ behind = sym (append_assoc line (10 ∷ []) behind) in
    record {
      before = front.before ++ (line ++ 10 ∷ []);
      others = others_more front.before line front.others clean other;
      text_is = front.text_is
          ∙ ap (λ z. front.before ++ z) (e ∙ over)
          ∙ sym (append_assoc front.before (line ++ 10 ∷ []) behind);
    }
