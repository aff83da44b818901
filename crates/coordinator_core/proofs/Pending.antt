-- Each listed operation was pending.
use Rattle.std.proofs.Common.{◌≡◌, ◌<◌, ℕ, suc, zero, Bool, true, false, cond, List, [], ◌∷◌, Option, Some, None, length, slice_index, take, map, get_or, refl, ap, subst, ◌∙◌}
use Rattle.std.specs.Prelude.{nat_lt, slice_get, option_map}
use Rattle.std.proofs.lemmas.Option.{slice_get-map, slice_get_read}
use Rattle.std.specs.List.{cons_option}
use Rattle.thread_state.specs.declared.poll_rule.Arming.{Arming}
use Rattle.desk.specs.declared.entries.Live.{Live}
use Rattle.desk.specs.Fields.{DeskSeen, at}
use Rattle.desk.specs.Targets.{untold}
use Rattle.coordinator_core.specs.Telling.{kind_told, telling_by, tellings}
use Rattle.coordinator_core.specs.Work.{IsLegal, WasPending, ArePending, DriveSeen, counted}
use Rattle.coordinator_core.specs.declared.listing.PendingOp.{PendingOp}

pub are_get : (ts : List PendingOp) (i : ℕ) (t : PendingOp) → ArePending ts → slice_get ts i ≡ Some t → WasPending t
are_get [] i t are e = absurd (let k : None ≡ Some t = e in cc)
are_get (x ∷ ts) zero t are e = let same : x ≡ t = (let k : Some x ≡ Some t = e in cc) in subst WasPending same are.0
are_get (x ∷ ts) (suc i) t are e = are_get ts i t are.1 e

-- Reading an element of a mapped list.
pub map_read : {A B : Type 0} (f : A → B) (xs : List A) (i : ℕ) (x : A) → i < length xs → x ≡ get_or xs i x → slice_get (map f xs) i ≡ Some (f x)
map_read f xs i x low is = slice_get-map f xs i ∙ ap (option_map f) (slice_get_read xs (length xs) i x refl low is)

are_first : (k : ℕ) (ts : List PendingOp) → ArePending ts → ArePending (take k ts)
are_first zero ts are = tt
are_first (suc k) [] are = tt
are_first (suc k) (t ∷ ts) are = (are.0, are_first k ts are.1)

all_pending : (d : DeskSeen) (armer : Arming) (ls : List Live) → IsLegal d → ArePending (tellings (at d) (kind_told (at d)) armer ls)
all_pending d armer [] legal = tt
all_pending d armer (l ∷ ls) legal = by (nat_lt l.place (length armer.armed)) (untold (at d) l.name (slice_index armer.armed l.place)) refl (all_pending d armer ls legal)
  where
    by : (b : Bool) (o : Option ℕ) → untold (at d) l.name (slice_index armer.armed l.place) ≡ o → ArePending (tellings (at d) (kind_told (at d)) armer ls)
        → ArePending (cons_option (cond b (telling_by (kind_told (at d)) l (slice_index armer.armed l.place) o) None) (tellings (at d) (kind_told (at d)) armer ls))
    by false o e rest = rest
    by true None e rest = rest
    by true (Some n) e rest = ((d, legal, e, refl), rest)

-- Of all pending operations, the first `k` were pending.
pub listed_pending : (d : DeskSeen) (k : ℕ) (armer : Arming) (ls : List Live) → IsLegal d → ArePending (take k (tellings (at d) (kind_told (at d)) armer ls))
listed_pending d k armer ls legal = are_first k (tellings (at d) (kind_told (at d)) armer ls) (all_pending d armer ls legal)

-- The work with an equal list, and with the next index too.
pub same_list : (v d : DriveSeen) (ps : List PendingOp) → v ≡ d → ps ≡ v.pending → record v { pending = ps } ≡ d
same_list v d ps e same = ap (λ (qs : List PendingOp). record v { pending = qs }) same ∙ e

pub next_list : (v d : DriveSeen) (ps : List PendingOp) (n : ℕ) → v ≡ d → ps ≡ v.pending → n ≡ counted v.at → record v { pending = ps; at = n } ≡ record d { at = counted d.at }
next_list v d ps n e same next =
    ap (λ (qs : List PendingOp). record v { pending = qs; at = n }) same ∙ ap (λ (m : ℕ). record v { at = m }) next ∙ ap (λ (x : DriveSeen). record x { at = counted x.at }) e
