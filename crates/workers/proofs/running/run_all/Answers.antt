use denote.Param.Send.{sendable}
use Rattle.std.proofs.Common.{rules}
use Rattle.std.proofs.Crossing.{crosses}
use Rattle.workers.proofs.running.run_all.Goals as goal

-- what the closure asks holds of what it takes, and threads may take it
pub scoped-requires : goal.scoped-requires
scoped-requires g c = record {
  at = λ a. (
    (c.requires.tasks, c.requires.codes, c.requires.jobs, search rules, search rules),
    (
      search (sendable, crosses) depth 40,
      search (sendable, crosses) depth 40,
      record { shared = c.type_bounds.sync-R.shared },
      record { shared = c.type_bounds.sync-G.shared },
    ),
  );
}
