use Rattle.std.proofs.Common.{rules}
use Rattle.parties.proofs.Driven.{called_then}
use Rattle.parties.proofs.driving.serving.serve_pass.Goals as goal

pub returns-then-branch-clause-leads : goal.returns-then-branch-clause-leads
returns-then-branch-clause-leads g c =
    called_then g.row.N.Denot _ c.loop.keeps c.call_next.new.keeps _ _ c.loop.invariant (c.in_ok-call_next.ensures.called (search rules))
