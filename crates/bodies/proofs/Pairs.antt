-- The entries of an index as pairs.
use Rattle.std.proofs.Common.{◌≡◌, ℕ, ◌+◌, List, [], ◌∷◌, map, cond, refl, ap, sym, ◌∙◌, subst}
use Rattle.std.specs.Prelude.{◌==◌}
use Rattle.activation_index.specs.declared.Entry.{Entry}
use Rattle.activation_index.specs.Counts.{count_in, IsRisingFrom}
use Rattle.bodies.specs.Bodies.{BodyView}
use Rattle.bodies.specs.Census.{total_count, count_of, IsRising, IsCensus}

abbrev pairs : List Entry → List (ℕ × ℕ)
pairs es = map (λ entry. (entry.serial, entry.count)) es

rising : (least : ℕ) (es : List Entry) → IsRisingFrom least es → IsRising least (pairs es)
rising least [] h = tt
rising least (e ∷ es) h = (h.0, h.1, rising (e.serial + 1) es h.2)

counted : (es : List Entry) (serial : ℕ) → count_of (pairs es) serial ≡ count_in es serial
counted [] serial = refl
counted (e ∷ es) serial = ap (λ n. cond (e.serial == serial) e.count n) (counted es serial)

pub is_census : (bs : List BodyView) (es : List Entry) (list : List (ℕ × ℕ)) → list ≡ pairs es → IsRisingFrom 0 es → ((serial : ℕ) → count_in es serial ≡ total_count serial bs) → IsCensus bs list
is_census bs es list is up all = subst (IsCensus bs) (sym is) (rising 0 es up, λ serial. counted es serial ∙ all serial)
