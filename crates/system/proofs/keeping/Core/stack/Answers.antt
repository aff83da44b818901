use Rattle.std.proofs.Common.{◌≡◌, subst, true}
use Rattle.std.specs.Prelude.{slice_get, IfOk, OnErr}
use Rattle.system.specs.Kept.Places.{frames_at, is_taken}
use Rattle.system.proofs.Exits.{stack_does, stack_may}
use Rattle.system.proofs.keeping.Core.stack.Goals as goal

pub returns-clause-does : goal.returns-clause-does
returns-clause-does c = stack_does c.args.self.now c.args.place c.stack_at.result (subst (λ ks. IfOk c.stack_at.result (λ said. said ≡ frames_at (slice_get ks c.args.place))) c.deref.ensures.value c.stack_at.ensures.frames)

pub returns-clause-no_memory : goal.returns-clause-no_memory
returns-clause-no_memory c = stack_may c.args.self.now c.args.place c.stack_at.result (subst (λ ks. OnErr c.stack_at.result (is_taken (slice_get ks c.args.place) ≡ true)) c.deref.ensures.value c.stack_at.ensures.no_memory)
