-- Held bodies stay held.
use Rattle.std.proofs.Common.{◌≡◌, List, [], ◌∷◌, ◌++◌, refl, ap, ◌∙◌}
use Rattle.bodies.specs.Bodies.{BodyView}
use Rattle.stopped_threads.specs.Holding.{Holding}
use Rattle.coordinator.specs.Driving.{HoldsOn}
use Rattle.coordinator_core.proofs.Arms.{arms_same, arms_then}

none_more : (xs : List BodyView) → xs ≡ xs ++ []
none_more [] = refl
none_more (x ∷ xs) = ap (λ t. x ∷ t) (none_more xs)

together : (xs ys zs : List BodyView) → (xs ++ ys) ++ zs ≡ xs ++ (ys ++ zs)
together [] ys zs = refl
together (x ∷ xs) ys zs = ap (λ t. x ∷ t) (together xs ys zs)

-- the same bodies stay held
pub holds_same : (old new : Holding) → new ≡ old → HoldsOn old new
holds_same old new e =
    (([], ap (λ (h : Holding). h.held) e ∙ none_more old.held), ap (λ (h : Holding). h.operated) e, arms_same old.armer new.armer (ap (λ (h : Holding). h.armer) e))

-- one step after another
pub holds_then : (a b c : Holding) → HoldsOn a b → HoldsOn b c → HoldsOn a c
holds_then a b c p q =
    ((p.0.0 ++ q.0.0, q.0.1 ∙ (ap (λ t. t ++ q.0.0) p.0.1 ∙ together a.held p.0.0 q.0.0)), q.1 ∙ p.1, arms_then a.armer b.armer c.armer p.2 q.2)
