use Rattle.std.proofs.Common.{subst, ap, ◌≡◌, ◌∙◌}
use Rattle.workers.specs.Ended.{IsReport, Reported, Tasked}
use Rattle.workers.proofs.Endings.{reported}
use Rattle.workers.proofs.task.Task.finish.Goals as goal

pub returns-clause-report : goal.returns-clause-report
returns-clause-report g c =
    let whole : record { code = c.self.inside.code.now; name = c.self.inside.name } ≡ c.args.self = search c.self.view_is in
    let made = c.new.ensures in
    subst (λ (t : Tasked). IsReport t.code c.new.result) whole
    (reported c.self.inside.code.now c.self.inside.name c.self.inside.runner c.run.new.self c.self.inside.worker c.run.new.steps c.run.result c.new.result
    c.self.invariant c.run.ensures (ap (λ (r : Reported). r.exited) made ∙ c.exit.ensures) (ap (λ (r : Reported). r.name) made)
    (ap (λ (r : Reported). r.ending) made ∙ c.ending_of-ending.ensures) (ap (λ (r : Reported). r.made) made ∙ c.made-made.ensures)
    (ap (λ (r : Reported). r.compiled) made ∙ c.compiled-compiled.ensures))
