-- What reading a document answers, from what reading its methods does.
use Rattle.std.proofs.Common.{◌≡◌, ℕ, zero, suc, ◌<◌, ◌≤◌, List, [], ◌∷◌, ◌++◌, map, nat_lt, true, false, Some, inl, inr, Result, Ok, Err, IfOk, IfErr, OnOk, option_map, sym, ap, subst, ◌∙◌, arith}
use Rattle.std.proofs.lemmas.Bool.Decides.{nat_tests}
use Rattle.serde_json.specs.Data.{Data, Items}
use Rattle.serde_json.specs.Events.{items_len}
use Rattle.script.specs.declared.fault.Fault.TheVariants.{TooManyMethods}
use Rattle.script.specs.declared.fault.ScriptFault.{ScriptFault}
use Rattle.script.specs.declared.fault.ScriptFault.TheVariants.{Refused}
use Rattle.script.specs.declared.items.Script.{Script}
use Rattle.script.specs.Json.{methods_in, method_outlines, some_sound}
use Rattle.script.specs.Faults.{document_faults, document_faults_of, number_faults, methods_faults, first, IsFirst}
use Rattle.script.specs.Reads.{IsJson, Reads, ReadsDocument}
use Rattle.script.specs.View.{bodies}

number_faults-none : (n : ℕ) → 0 < n → n ≤ 256 → number_faults n ≡ []
number_faults-none zero h k = absurd (omega arith)
number_faults-none (suc n) h k = let e : nat_lt n 256 ≡ true = grind (nat_tests, arith) in rw e

number_faults-many : (n : ℕ) → 256 < n → number_faults n ≡ Refused TooManyMethods [] ∷ []
number_faults-many zero h = absurd (omega arith)
number_faults-many (suc n) h = let e : nat_lt n 256 ≡ false = grind (nat_tests, arith) in rw e

pub too_many : (d : Data) (ds : Items) → Some ds ≡ methods_in d → 256 < items_len ds → first (document_faults d) ≡ Some (Refused TooManyMethods [])
too_many d ds is h =
    ap (λ o. first (document_faults_of o)) (sym is) ∙ ap (λ f. first (f ++ methods_faults 0 0 ds)) (number_faults-many (items_len ds) h)

-- with 1 to 256 methods, the faults are those of the methods
pub faults_of_methods : (d : Data) (ds : Items) → Some ds ≡ methods_in d → 0 < items_len ds → items_len ds ≤ 256 → document_faults d ≡ methods_faults 0 0 ds
faults_of_methods d ds is h k =
    ap document_faults_of (sym is) ∙ ap (λ f. f ++ methods_faults 0 0 ds) (number_faults-none (items_len ds) h k)

pub reads_document : (d : Data) (ds : Items) (r : Result Script ScriptFault) → Some ds ≡ methods_in d → document_faults d ≡ methods_faults 0 0 ds
    → IfOk r (λ s. method_outlines ds ≡ map some_sound (bodies s))
    → OnOk r (methods_faults 0 0 ds ≡ [])
    → IfErr r (IsFirst (methods_faults 0 0 ds))
    → ReadsDocument d r
reads_document d ds (Ok s) is same ok clean err = (ap (option_map method_outlines) (sym is) ∙ ap Some ok, same ∙ clean)
reads_document d ds (Err e) is same ok clean err = subst (λ fs. IsFirst fs e) (sym same) err

pub reads : (text : List ℕ) (d : Data) (r : Result Script ScriptFault) → IsJson text d → ReadsDocument d r → Reads text r
reads text d (Ok s) is h = (d, is, h.0, h.1)
reads text d (Err e) is h = elim h [ inl p ↦ inl p | inr p ↦ inr (inr (d, is, p)) ]
