use Rattle.std.proofs.Common.{◌++◌, take, rules, arith, inr}
use Rattle.system.proofs.Runs.{sizes_through, ran_on, stops_at}
use Rattle.system.proofs.Once.{run_at_most_once}
use Rattle.system.proofs.Safely.{handshakes_run, censuses_run}
use Rattle.system.proofs.Worlds.{held_are_safe}
use Rattle.system.proofs.NoRetiredStands.{retired_stand_nowhere}
use Rattle.system.proofs.machine.System.run.Goals as goal

pub loop-at-preserved : goal.loop-at-preserved
loop-at-preserved c = record {
  room = omega (arith, c.push_reserved.ensures.capacity);
  sizes = sizes_through c.args.self.now c.loop-at.self c.apply_copy.new.self c.loop-at.invariant.sizes c.apply_copy.ensures.sizes;
  made = omega (arith, c.push_reserved.ensures.len);
  stands = λ before stood.
      let was = c.loop-at.invariant.stands before stood in
      ran_on c.args.self.now c.loop-at.self c.apply_copy.new.self before c.args.events.now c.loop-at.at _ c.loop-at.said.items c.push_reserved.new.self.items c.in-Ok.answer c.loop-at.invariant.sizes (omega arith) (search rules) was.0 was.1 c.in-Ok.ensures.answered c.push_reserved.ensures.items;
}

pub returns-then-is_err-clause-once : goal.returns-then-is_err-clause-once
returns-then-is_err-clause-once c = λ all stands. run_at_most_once _ _ _ all

pub returns-then-is_err-clause-handshakes : goal.returns-then-is_err-clause-handshakes
returns-then-is_err-clause-handshakes c = λ all stands. handshakes_run _ _ _ all

pub returns-then-is_err-clause-safepoints : goal.returns-then-is_err-clause-safepoints
returns-then-is_err-clause-safepoints c = λ all stands. censuses_run _ _ _ all

pub returns-then-is_err-clause-held : goal.returns-then-is_err-clause-held
returns-then-is_err-clause-held c = λ all stands. held_are_safe _ _ _ all

pub returns-then-is_err-clause-reclaimed : goal.returns-then-is_err-clause-reclaimed
returns-then-is_err-clause-reclaimed c = λ all stands. retired_stand_nowhere _ _ _ all

pub returns-in-Err-clause-once : goal.returns-in-Err-clause-once
returns-in-Err-clause-once c = λ all stands. run_at_most_once _ _ _ all

pub returns-in-Err-clause-handshakes : goal.returns-in-Err-clause-handshakes
returns-in-Err-clause-handshakes c = λ all stands. handshakes_run _ _ _ all

pub returns-in-Err-clause-safepoints : goal.returns-in-Err-clause-safepoints
returns-in-Err-clause-safepoints c = λ all stands. censuses_run _ _ _ all

pub returns-in-Err-clause-held : goal.returns-in-Err-clause-held
returns-in-Err-clause-held c = λ all stands. held_are_safe _ _ _ all

pub returns-in-Err-clause-reclaimed : goal.returns-in-Err-clause-reclaimed
returns-in-Err-clause-reclaimed c = λ all stands. retired_stand_nowhere _ _ _ all

pub returns-clause-once : goal.returns-clause-once
returns-clause-once c = λ all stands. run_at_most_once _ _ _ all

pub returns-clause-handshakes : goal.returns-clause-handshakes
returns-clause-handshakes c = λ all stands. handshakes_run _ _ _ all

pub returns-clause-safepoints : goal.returns-clause-safepoints
returns-clause-safepoints c = λ all stands. censuses_run _ _ _ all

pub returns-clause-held : goal.returns-clause-held
returns-clause-held c = λ all stands. held_are_safe _ _ _ all

pub returns-clause-reclaimed : goal.returns-clause-reclaimed
returns-clause-reclaimed c = λ all stands. retired_stand_nowhere _ _ _ all

pub returns-in-Err-clause-no_memory : goal.returns-in-Err-clause-no_memory
returns-in-Err-clause-no_memory c = λ before stood. inr (stops_at c.args.self.now c.loop-at.self before c.args.events.now c.loop-at.at _ c.loop-at.invariant.sizes (omega arith) (search rules) (c.in-Err.ensures.no_memory (before ++ take c.loop-at.at c.args.events.now) (c.loop-at.invariant.stands before stood).1))
