-- The outcome of an event: a refusal, or a change with an answer.
use Rattle.std.specs.Prelude.{Bool, true, false}
use Rattle.system.specs.declared.answers.Answer.{Answer}
use Rattle.system.specs.declared.answers.Refusal.{Refusal}

pub data Verdict (A : Type 0) : Type 0 where
  refused : Refusal → Verdict A
  accepted : A → Answer → Verdict A

infix 5 unless◌refuse◌then◌
-- One test of an event. If it fails, the event is refused; otherwise the rest decides.
abbrev pub unless◌refuse◌then◌ : {A : Type 0} → Bool → Refusal → Verdict A → Verdict A
unless◌refuse◌then◌ true refusal rest = rest
unless◌refuse◌then◌ false refusal rest = refused refusal
