use Rattle.std.proofs.Common.{◌≡◌, ◌∙◌, sym, ap, refl, true, false, not, cond, Bool}
use Rattle.std.specs.Prelude.{is_some, is_none, Option, Some, None}
use Rattle.frames.specs.declared.EndFault.{EndFault}
use Rattle.frames.specs.declared.EndFault.TheVariants.{NotBegun, ChangesLeft}
use Rattle.frames.specs.Stack.{act}
use Rattle.frames.specs.ImageView.{next_code, ImageView, IsCounted}
use Rattle.system.specs.Threads.{next_change}
use Rattle.system.proofs.Images.{ended, next_is_left, none_is, some_is}
use Rattle.system.proofs.thread.Thread.end.Goals as goal

accepted : (publishing left : Bool) → ◌≡◌ {A = Option EndFault} (cond (not publishing) (Some NotBegun) (cond left (Some ChangesLeft) None)) None → (publishing ≡ true) × (left ≡ false)
accepted true true h = cc
accepted true false h = (refl, refl)
accepted false left h = cc

left_over : (publishing left : Bool) → ◌≡◌ {A = Option EndFault} (cond (not publishing) (Some NotBegun) (cond left (Some ChangesLeft) None)) (Some ChangesLeft) → (publishing ≡ true) × (left ≡ true)
left_over true true h = (refl, refl)
left_over true false h = cc
left_over false left h = cc

pub returns-in-Ok : goal.returns-in-Ok
returns-in-Ok c = λ w now t same.
    let old : ImageView = c.args.self.now.image in
    let facts = accepted old.publishing (is_some (next_code old)) c.in-Ok.ensures.accepted in
    let open_ : is_some t.changed ≡ true = sym same.image.publishing ∙ facts.0 in
    let none : next_change t ≡ None = sym (next_is_left old t same.image) ∙ none_is (next_code old) facts.1 in
    let was : IsCounted old = c.in-Ok.ensures.counted in
    rw (open_, none) (
      refl,
      record {
        name = same.name;
        state = same.state;
        held = same.held;
        published = refl;
        image = ended old c.end.new.self t same.image c.in-Ok.ensures.ok.0 c.in-Ok.ensures.ok.1 c.in-Ok.ensures.ok.2;
      },
      record {
        name = refl;
        counted = λ code. sym (c.in-Ok.ensures.ok.2 code) ∙ (ap (act code) c.in-Ok.ensures.ok.0 ∙ was code);
        marks_are = refl;
        moments_are = refl;
      },
    )

pub returns-in-Err-ChangesLeft : goal.returns-in-Err-ChangesLeft
returns-in-Err-ChangesLeft c = λ w now t same.
    let old : ImageView = c.args.self.now.image in
    let refused = rw c.in-Err-ChangesLeft.field-0-is at c.in-Err-ChangesLeft.ensures.refused in
    let facts = left_over old.publishing (is_some (next_code old)) refused in
    let open_ : is_some t.changed ≡ true = sym same.image.publishing ∙ facts.0 in
    let some : is_none (next_change t) ≡ false = ap is_none (sym (next_is_left old t same.image)) ∙ some_is (next_code old) facts.1 in
    rw (open_, some) (refl, rw c.in-Err-ChangesLeft.ensures.unchanged refl)
