use Rattle.std.proofs.Common.{rules, ◌≡◌, ◌∙◌, sym, ap, refl, true, false, Some, None, Err}
use Rattle.std.specs.Prelude.{find, option_copied}
use Rattle.system.specs.Kept.Threads.{undone_by}
use Rattle.system.proofs.AskedOfThread.{settled_by, empty_length, finish_is, finish_idle, finish_found, undone_waits, asked_is}
use Rattle.system.proofs.thread.Thread.finish.Goals as goal

pub returns-in_default : goal.returns-in_default
returns-in_default c = λ w now t here.
    let none : find (undone_by c.args.self.now) c.args.operations.now ≡ None = sym c.next_undone.ensures ∙ ap option_copied c.in_default.is in
    rw (finish_idle c.args.operations.now c.args.self.now w.requests t here none) (ap Err (c.idle_refusal.ensures ∙ rw (c.is_empty.ensures, empty_length c.args.operations.now, c.is_listed.ensures, c.is_told.ensures) refl), refl)

pub returns-then-not-is_asked : goal.returns-then-not-is_asked
returns-then-not-is_asked c = λ w now t here.
    let one : find (undone_by c.args.self.now) c.args.operations.now ≡ Some c.in-Some.open.now = sym c.next_undone.ensures ∙ ap option_copied c.in-Some.is in
    let waits = undone_waits c.args.operations.now c.args.self.now w.requests t c.in-Some.open.now here one in
    rw (finish_is c.args.operations.now c.args.self.now w.requests t here, waits.some, asked_is c.args.operations.now c.args.self.now w.requests t c.in-Some.open.now here one, sym c.is_asked.ensures ∙ c.if-not-is_asked.true) (refl, refl)

pub returns-then-not-is_settled : goal.returns-then-not-is_settled
returns-then-not-is_settled c = λ w now t here.
    let one : find (undone_by c.args.self.now) c.args.operations.now ≡ Some c.in-Some.open.now = sym c.next_undone.ensures ∙ ap option_copied c.in-Some.is in
    let waits = undone_waits c.args.operations.now c.args.self.now w.requests t c.in-Some.open.now here one in
    let settled = settled_by c.args.self.now.image t c.is_settled.result here.thread.image c.is_settled.ensures ∙ c.if-not-is_settled.true in
    rw (
      finish_is c.args.operations.now c.args.self.now w.requests t here,
      waits.some,
      asked_is c.args.operations.now c.args.self.now w.requests t c.in-Some.open.now here one,
      sym c.is_asked.ensures ∙ c.if-not-is_asked.false,
      waits.told,
      finish_found c.args.operations.now c.args.self.now w.requests t c.in-Some.open.now false here one settled,
    ) (refl, refl)

pub returns : goal.returns
returns c = λ w now t here.
    let one : find (undone_by c.args.self.now) c.args.operations.now ≡ Some c.in-Some.open.now = sym c.next_undone.ensures ∙ ap option_copied c.in-Some.is in
    let waits = undone_waits c.args.operations.now c.args.self.now w.requests t c.in-Some.open.now here one in
    let settled = settled_by c.args.self.now.image t c.is_settled.result here.thread.image c.is_settled.ensures ∙ c.if-not-is_settled.false in
    rw (
      finish_is c.args.operations.now c.args.self.now w.requests t here,
      waits.some,
      asked_is c.args.operations.now c.args.self.now w.requests t c.in-Some.open.now here one,
      sym c.is_asked.ensures ∙ c.if-not-is_asked.false,
      waits.told,
      finish_found c.args.operations.now c.args.self.now w.requests t c.in-Some.open.now true here one settled,
      one,
    )
    (search rules, (rw here.thread.name refl, record { name = here.thread.name; state = here.thread.state; held = here.thread.held; published = here.thread.published; image = here.thread.image }), record { name = refl; counted = λ code. refl; marks_are = search rules; moments_are = refl })
