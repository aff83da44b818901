-- A body at an index.
use Rattle.std.proofs.Common.{◌≡◌, ℕ, ◌<◌, true, List, length, get_or}
use Rattle.std.specs.Prelude.{◌==◌}
use Rattle.std.proofs.lemmas.List.Folds.{list_any_at}
use Rattle.bodies.specs.Bodies.{BodyView}
use Rattle.desk.specs.Refusals.{has_body}

pub body_at : (name : ℕ) (bodies : List BodyView) (i : ℕ) (d : BodyView) → i < length bodies → ((get_or bodies i d).name == name) ≡ true → has_body name bodies ≡ true
body_at name bodies i d below is = list_any_at (λ b. b.name == name) bodies i d below is
