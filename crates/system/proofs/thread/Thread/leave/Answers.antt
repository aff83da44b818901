use Rattle.std.proofs.Common.{◌≡◌, ◌∙◌, sym, ap, refl, false, length, take, List, ◌∷◌, [], ◌-◌, ℕ}
use Rattle.frames.specs.declared.Frame.{Frame}
use Rattle.operations.specs.Names.{is_empty}
use Rattle.thread_state.specs.States.{is_in_java}
use Rattle.system.specs.declared.thread.Thread.{Thread as Kept}
use Rattle.system.specs.Places.{popped}
use Rattle.system.specs.Marking.{SameThread}
use Rattle.system.proofs.Images.{with_frames, stack_is, take_front}
use Rattle.system.proofs.Polled.{java_is, polled_before}
use Rattle.system.proofs.thread.Thread.leave.Goals as goal

some_frame : (s : List Frame) (n : ℕ) → length s ≡ n → (n ≡ 0 → ⊥) → is_empty s ≡ false
some_frame [] n e h = absurd (h (sym e))
some_frame (f ∷ fs) n e h = refl

pub returns : goal.returns
returns c = λ w t same poll.
    let old : Kept = c.args.self.now in
    let mid : Kept = record old { image = c.take_top.new.self } in
    let some : is_empty t.stack ≡ false = some_frame t.stack c.depth.result (ap length (sym same.image.frames) ∙ sym c.depth.ensures.value) c.if-depth-eq0.false in
    let java = java_is t.state (ap is_in_java (sym same.state) ∙ c.requires.java) in
    let same_mid : SameThread mid (popped t) = record {
      name = same.name;
      state = same.state;
      held = same.held;
      published = same.published;
      image = with_frames old.image c.take_top.new.self t (take (length t.stack - 1) t.stack) same.image c.requires.closed (stack_is old.image c.take_top.new.self c.take_top.new.self.frames (take (length t.stack - 1) t.stack) (take_front old.image.frames c.take_top.new.self.frames c.take_top.result c.take_top.ensures.popped ∙ ap (λ s. take (length s - 1) s) same.image.frames) c.take_top.ensures.left);
    } in
    rw some (polled_before old mid c.crosses.new.self w.requests t (popped t) c.crosses.result java
    (record { name = refl; counted = c.take_top.ensures.left.counted_stay; marks_are = refl; moments_are = refl })
    (c.crosses.ensures w.requests (popped t) same_mid poll))
