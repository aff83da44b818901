-- The oldest open request has one kind and one number.
use Rattle.std.proofs.Common.{◌≡◌, ℕ, List, [], ◌∷◌, Option, Some, None, sym, ap, ◌∙◌}
use Rattle.std.specs.Prelude.{IfSome}
use Rattle.operations.specs.declared.Kind.{Kind}
use Rattle.operations.specs.Requests.{kind_of}
use Rattle.desk.specs.Machine.{Current}
use Rattle.desk.specs.Targets.{number_of}
use Rattle.desk.specs.Refusals.{oldest_of}
use Rattle.desk.specs.Targets.{kind_of_oldest}

pub same_number : (cs : List Current) (c d : Current) → oldest_of cs ≡ Some c → oldest_of cs ≡ Some d → c.number ≡ d.number
same_number cs c d p q = let same : Some c ≡ Some d = sym p ∙ q in cc

pub kind_is : (cs : List Current) (c : Current) (k : Kind) → oldest_of cs ≡ Some c → kind_of_oldest cs ≡ Some k → kind_of c.request ≡ k
kind_is [] c k p q = absurd (let no : None ≡ Some k = q in cc)
kind_is (x ∷ cs) c k p q = let same : x ≡ c = cc in let is : kind_of x.request ≡ k = cc in ap (λ (y : Current). kind_of y.request) (sym same) ∙ is

pub number_is : (cs : List Current) (c : Current) (number : Option ℕ) → oldest_of cs ≡ Some c → IfSome number (λ n. number_of (oldest_of cs) ≡ Some n) → IfSome number (λ n. c.number ≡ n)
number_is cs c None p q = tt
number_is cs c (Some n) p q = let is : Some c.number ≡ Some n = ap number_of (sym p) ∙ q in cc
