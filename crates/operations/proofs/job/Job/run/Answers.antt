use Rattle.std.proofs.Common.{◌≡◌, ap, refl}
use Rattle.operations.specs.Jobs.{DoneView}
use Rattle.operations.proofs.job.Job.run.Goals as goal

pub of-requires-clause-told : goal.of-requires-clause-told
of-requires-clause-told g c =
    let w = c.called-reply.ensures in
    c.args.self.answers c.args.image c.called-reply.result c.requires (w.1.0, (w.1.0, w.1.1, refl))

pub returns-clause-called : goal.returns-clause-called
returns-clause-called g c =
    let made : c.of.result.reply ≡ c.called-reply.result = ap (λ (d : DoneView). d.reply) c.of.ensures.fields in
    rw made (c.args.image, refl, c.called-reply.ensures)
