use Rattle.std.proofs.Common.{◌≡◌, drop}
use Rattle.std.specs.List.{list_any}
use Rattle.system.specs.Kept.Tells.{is_named_at}
use Rattle.system.proofs.tells.place_of.Given as goal

abbrev pub invariant-loop-place : goal.invariant-loop-place
invariant-loop-place l = list_any (is_named_at l.name) l.places ≡ list_any (is_named_at l.name) (drop l.place l.places)
