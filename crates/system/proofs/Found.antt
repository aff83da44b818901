-- The item of a list of places at an index.
use Rattle.std.proofs.Common.{◌≡◌, ◌<◌, sym, ap, refl, ℕ, zero, suc, List, [], ◌∷◌, Option, Some, None, Result, Err, length, get_or, set, arith}
use Rattle.std.specs.Prelude.{slice_get, slice_set}
use Rattle.frames.specs.declared.Change.{Change}
use Rattle.method_table.specs.TableView.{TableView}
use Rattle.thread_state.specs.declared.State.TheVariants.{Vacant}
use Rattle.system.specs.declared.thread.Thread.{Thread as Kept}
use Rattle.system.specs.declared.answers.Answer.{Answer}
use Rattle.system.specs.declared.answers.Answer.TheVariants.{Refused}
use Rattle.system.specs.declared.answers.Refusal.{Refusal}
use Rattle.system.specs.declared.answers.Refusal.TheVariants.{Illegal}
use Rattle.system.specs.Kept.Acts.{Lent}
use Rattle.system.specs.Kept.Places.{DidAt, DidAct, DidChange, DidCount, answer_here}

-- an index in range has the item read there
pub got : (ks : List (Option Kept)) (i : ℕ) (d k : Option Kept) → i < length ks → get_or ks i d ≡ k → slice_get ks i ≡ Some k
got [] i d k lt e = absurd (omega arith)
got (x ∷ ks) zero d k lt e = ap Some e
got (x ∷ ks) (suc i) d k lt e = got ks i d k (omega arith) e

-- storing the same item changes nothing
pub put_back : (ks : List (Option Kept)) (i : ℕ) (k : Option Kept) → slice_get ks i ≡ Some k → slice_set ks i k ≡ ks
put_back [] i k e = cc
put_back (x ∷ ks) zero k e = (let is : x ≡ k = cc in ap (λ y. y ∷ ks) (sym is))
put_back (x ∷ ks) (suc i) k e = ap (λ ys. x ∷ ys) (put_back ks i k e)

pub vacant_at : (lent : Lent) (table : TableView) (place : ℕ) (ks new : List (Option Kept)) → slice_get ks place ≡ Some None → new ≡ ks → DidAt lent table place ks new (Refused (Illegal Vacant))
vacant_at lent table place ks new e same = rw e (refl, same)

pub acted_at : (lent : Lent) (table : TableView) (place : ℕ) (ks new : List (Option Kept)) (kept after : Kept) (result : Result Answer Refusal) → slice_get ks place ≡ Some (Some kept) → DidAct lent table kept after result → new ≡ slice_set ks place (Some after) → DidAt lent table place ks new (answer_here result)
acted_at lent table place ks new kept after result e did set = rw e (record { after = after; result = result; did = did; said = refl; places = set })

pub vacant_count : (place : ℕ) (ks new : List (Option Kept)) → slice_get ks place ≡ Some None → new ≡ ks → DidChange place ks new (Err (Illegal Vacant))
vacant_count place ks new e same = rw e (refl, same)

pub counted_at : (place : ℕ) (ks new : List (Option Kept)) (kept after : Kept) (result : Result (Option Change) Refusal) → slice_get ks place ≡ Some (Some kept) → DidCount kept after result → new ≡ slice_set ks place (Some after) → DidChange place ks new result
counted_at place ks new kept after result e did set = rw e (record { after = after; did = did; places = set })
