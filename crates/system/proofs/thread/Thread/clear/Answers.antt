use Rattle.std.proofs.Common.{rules, ◌≡◌, ◌∙◌, sym, ap, refl, true, false, Some, None, Err}
use Rattle.std.specs.Prelude.{find, option_copied}
use Rattle.system.specs.Kept.Threads.{uncleared_by, is_done}
use Rattle.system.proofs.AskedOfThread.{empty_length, clear_is, clear_idle, clear_found, any_found, uncleared_waits}
use Rattle.system.proofs.thread.Thread.clear.Goals as goal

pub returns-in_default : goal.returns-in_default
returns-in_default c = λ w now t here.
    let none : find (uncleared_by c.args.self.now) c.args.operations.now ≡ None = sym c.next_uncleared.ensures ∙ ap option_copied c.in_default.is in
    rw (clear_idle c.args.operations.now c.args.self.now w.requests t here none) (ap Err (c.idle_refusal.ensures ∙ rw (c.is_empty.ensures, empty_length c.args.operations.now, c.is_target.ensures, c.is_told.ensures) refl), refl)

pub returns-then-not-is_done : goal.returns-then-not-is_done
returns-then-not-is_done c = λ w now t here.
    let one : find (uncleared_by c.args.self.now) c.args.operations.now ≡ Some c.in-Some.open.now = sym c.next_uncleared.ensures ∙ ap option_copied c.in-Some.is in
    let waits = uncleared_waits c.args.operations.now c.args.self.now w.requests t here (any_found (uncleared_by c.args.self.now) c.args.operations.now c.in-Some.open.now one) in
    let well : is_done c.in-Some.open.now c.args.self.now ≡ false = sym c.is_done.ensures ∙ c.if-not-is_done.true in
    rw (clear_is c.args.operations.now c.args.self.now w.requests t here, waits.some, waits.target, waits.told, clear_found c.args.operations.now c.args.self.now w.requests t c.in-Some.open.now here one, well) (refl, refl)

pub returns : goal.returns
returns c = λ w now t here.
    let one : find (uncleared_by c.args.self.now) c.args.operations.now ≡ Some c.in-Some.open.now = sym c.next_uncleared.ensures ∙ ap option_copied c.in-Some.is in
    let waits = uncleared_waits c.args.operations.now c.args.self.now w.requests t here (any_found (uncleared_by c.args.self.now) c.args.operations.now c.in-Some.open.now one) in
    let well : is_done c.in-Some.open.now c.args.self.now ≡ true = sym c.is_done.ensures ∙ c.if-not-is_done.false in
    rw (clear_is c.args.operations.now c.args.self.now w.requests t here, waits.some, waits.target, waits.told, clear_found c.args.operations.now c.args.self.now w.requests t c.in-Some.open.now here one, well, one)
    (refl, (rw here.thread.name refl, record { name = here.thread.name; state = here.thread.state; held = here.thread.held; published = here.thread.published; image = here.thread.image }), record { name = refl; counted = λ code. refl; marks_are = search rules; moments_are = refl })
