use Rattle.test_core.proofs.tests.jobs.settled.Goals as goal

pub returns : goal.returns
returns g c = c.is_settled.ensures.0 c.if-not-is_settled.false
