use Rattle.std.proofs.Common.{◌≡◌, ◌+◌, drop}
use Rattle.std.specs.Prelude.{option_map}
use Rattle.system.specs.World.{vacant_place}
use Rattle.system.proofs.places.vacant_place.Given as goal

abbrev pub invariant-loop-place : goal.invariant-loop-place
invariant-loop-place l = vacant_place l.places ≡ option_map (λ n. l.place + n) (vacant_place (drop l.place l.places))
