use Rattle.std.proofs.Common.{◌≡◌, ◌∙◌, sym, ap, refl, rules, true, false, Bool, not, length, List, ◌∷◌, [], arith, ℕ, Option, Some, None}
use Rattle.std.specs.Prelude.{is_none, is_some}
use Rattle.frames.specs.declared.Frame.{Frame}
use Rattle.operations.specs.Names.{is_empty}
use Rattle.system.specs.declared.events.Act.TheVariants.{Exit}
use Rattle.system.specs.Kept.Threads.{common_refusal, poll_by}
use Rattle.system.proofs.SharedTests.{here_passed}
use Rattle.system.proofs.AskedOfThread.{settled_by}
use Rattle.system.proofs.thread.Thread.exit_refusal.Goals as goal

no_frame : (s : List Frame) (n : ℕ) → length s ≡ n → n ≡ 0 → is_empty s ≡ true
no_frame [] n e h = refl
no_frame (f ∷ fs) n e h = absurd (omega arith)

none_or : (o : Option ℕ) (b : Bool) → b ≡ is_some o → is_none o ≡ not b
none_or None b h = rw h refl
none_or (Some n) b h = rw h refl

pub returns-then-not-is_settled : goal.returns-then-not-is_settled
returns-then-not-is_settled c = λ w t same poll.
    let none : common_refusal c.args.self.now Exit ≡ None = search rules in
    let empty = no_frame t.stack c.depth.result (ap length (sym same.image.frames) ∙ sym c.depth.ensures.value) (search rules) in
    let settled = settled_by c.args.self.now.image t c.is_settled.result same.image c.is_settled.ensures ∙ c.if-not-is_settled.true in
    rw (here_passed w Exit c.args.self.now t same none, empty, settled) refl

pub returns-then-is_some : goal.returns-then-is_some
returns-then-is_some c = λ w t same poll.
    let none : common_refusal c.args.self.now Exit ≡ None = search rules in
    let empty = no_frame t.stack c.depth.result (ap length (sym same.image.frames) ∙ sym c.depth.ensures.value) (search rules) in
    let settled = settled_by c.args.self.now.image t c.is_settled.result same.image c.is_settled.ensures ∙ c.if-not-is_settled.false in
    let pending = none_or (poll_by c.args.self.now.marks) true (search rules) in
    rw (here_passed w Exit c.args.self.now t same none, empty, settled, poll, pending) refl

pub returns : goal.returns
returns c = λ w t same poll.
    let none : common_refusal c.args.self.now Exit ≡ None = search rules in
    let empty = no_frame t.stack c.depth.result (ap length (sym same.image.frames) ∙ sym c.depth.ensures.value) (search rules) in
    let settled = settled_by c.args.self.now.image t c.is_settled.result same.image c.is_settled.ensures ∙ c.if-not-is_settled.false in
    let pending = none_or (poll_by c.args.self.now.marks) false (search rules) in
    rw (here_passed w Exit c.args.self.now t same none, empty, settled, poll, pending) refl
