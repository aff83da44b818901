use Rattle.std.proofs.Common.{◌≡◌, ◌≤◌, ◌++◌, take, List, vec_len, vec_capacity, length}
use Rattle.system.specs.declared.events.Event.{Event}
use Rattle.system.specs.Runs.{answers}
use Rattle.system.specs.Stands.{StandsFor, world_by, SameSizes}
use Rattle.system.proofs.machine.System.run.Given as goal

abbrev pub invariant-loop-at : goal.invariant-loop-at
invariant-loop-at l = record {
  room : length l.events ≤ vec_capacity l.said;
  sizes : SameSizes l.fn.self l.self;
  made : vec_len l.said ≡ l.at;
  stands : (before : List Event) → StandsFor l.fn.self before →
      (l.said.items ≡ answers (world_by l.fn.self before) (take l.at l.events)) × StandsFor l.self (before ++ take l.at l.events);
}
