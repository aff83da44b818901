use Rattle.std.proofs.Common.{arith, sym, ◌∙◌}
use Rattle.replay.proofs.Ends.{first_none, first_some, first_within}
use Rattle.replay.proofs.words.far_end.Goals as goal

pub returns-in-Some : goal.returns-in-Some
returns-in-Some c = let at = first_some 10 c.args.bytes.now c.in-Some.at _ (sym c.memchr_iter.ensures.value ∙ c.in-Some.ensures.steps) in record {
  at = sym at;
  bound = omega (arith, at, first_within 10 c.args.bytes.now);
}

pub returns-in-None : goal.returns-in-None
returns-in-None c = record {
  at = sym (first_none 10 c.args.bytes.now (sym c.memchr_iter.ensures.value ∙ c.in-None.ensures.steps.0));
  bound = omega arith;
}
