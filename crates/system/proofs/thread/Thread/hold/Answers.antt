use Rattle.std.proofs.Common.{◌≡◌, ◌∙◌, sym, ap, refl, true, Err}
use Rattle.std.specs.List.{list_any}
use Rattle.system.specs.Kept.Threads.{uncleared_by}
use Rattle.system.proofs.AskedOfThread.{empty_length, hold_is, hold_idle, hold_passed, uncleared_waits}
use Rattle.system.proofs.thread.Thread.hold.Goals as goal

pub returns-then-not-is_waited_for : goal.returns-then-not-is_waited_for
returns-then-not-is_waited_for c = λ w t here.
    rw (hold_idle c.args.operations.now c.args.self.now w.requests t here (sym c.is_waited_for.ensures ∙ c.if-not-is_waited_for.true)) (ap Err (c.idle_refusal.ensures ∙ rw (c.is_empty.ensures, empty_length c.args.operations.now, c.is_target.ensures, c.is_told.ensures) refl), refl)

pub returns-then-self : goal.returns-then-self
returns-then-self c = λ w t here.
    let any : list_any (uncleared_by c.args.self.now) c.args.operations.now ≡ true = sym c.is_waited_for.ensures ∙ c.if-not-is_waited_for.false in
    let waits = uncleared_waits c.args.operations.now c.args.self.now w.requests t here any in
    rw (hold_is c.args.operations.now c.args.self.now w.requests t here, waits.some, waits.target, waits.told, any, c.if-self.true) (refl, refl)

pub returns-then-not-is_safe : goal.returns-then-not-is_safe
returns-then-not-is_safe c = λ w t here.
    let any : list_any (uncleared_by c.args.self.now) c.args.operations.now ≡ true = sym c.is_waited_for.ensures ∙ c.if-not-is_waited_for.false in
    let waits = uncleared_waits c.args.operations.now c.args.self.now w.requests t here any in
    rw (hold_is c.args.operations.now c.args.self.now w.requests t here, waits.some, waits.target, waits.told, any, c.if-self.false, sym c.is_safe.ensures ∙ c.if-not-is_safe.true) (refl, refl)

pub returns : goal.returns
returns c = λ w t here.
    let any : list_any (uncleared_by c.args.self.now) c.args.operations.now ≡ true = sym c.is_waited_for.ensures ∙ c.if-not-is_waited_for.false in
    let waits = uncleared_waits c.args.operations.now c.args.self.now w.requests t here any in
    rw (hold_passed c.args.operations.now c.args.self.now w.requests t here waits.some waits.target waits.told any c.if-self.false (sym c.is_safe.ensures ∙ c.if-not-is_safe.false))
    (refl, record { name = here.thread.name; state = here.thread.state; held = refl; published = here.thread.published; image = record { frames = here.thread.image.frames; publishing = here.thread.image.publishing; counted = here.thread.image.counted } }, record { name = refl; counted = λ code. refl; marks_are = refl; moments_are = refl })
