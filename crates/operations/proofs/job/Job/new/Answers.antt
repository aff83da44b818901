use Rattle.operations.proofs.job.Job.new.Goals as goal

pub invariant_of-result : goal.invariant_of-result
invariant_of-result g c =
    record {
      callable = c.requires.callable;
      answers = λ i r s w. c.requires.answers i r s (record c.args.call { value = w.0 }, w.1);
    }
