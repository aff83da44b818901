-- A list of due threads grows by one thread of the rest.
use Rattle.std.proofs.Common.{◌≡◌, ◌++◌, ℕ, suc, true, List, [], ◌∷◌, take, sym, ap, ◌∙◌}
use Rattle.std.specs.Prelude.{cond}
use Rattle.std.specs.List.{list_any}
use Rattle.std.proofs.lemmas.List.{append_assoc}
use Rattle.desk.specs.declared.entries.Live.{Live}
use Rattle.desk.specs.Machine.{Current}
use Rattle.desk.specs.Targets.{is_due_target, due_of}

-- A due thread is the first of the due threads of its list.
pub due_first : (cs : List Current) (one : Live) (others : List Live) → list_any (is_due_target one) cs ≡ true → due_of cs (one ∷ others) ≡ one ∷ due_of cs others
due_first cs one others due = ap (λ b. cond b (one ∷ due_of cs others) (due_of cs others)) due

-- The thread moves from the rest to the end of the list.
pub moved : (xs : List Live) (one : Live) (rest : List Live) (n k : ℕ) → n ≡ suc k → (xs ++ one ∷ []) ++ take k rest ≡ xs ++ take n (one ∷ rest)
moved xs one rest n k e = append_assoc xs (one ∷ []) (take k rest) ∙ sym (ap (λ m. xs ++ take m (one ∷ rest)) e)
