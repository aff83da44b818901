use Rattle.std.proofs.Common.{◌≡◌, ◌∙◌, sym, ap, refl, rules, true, ◌++◌, ◌∷◌, [], length}
use Rattle.std.specs.Prelude.{nat_lt}
use Rattle.frames.specs.declared.Frame.{Frame}
use Rattle.system.specs.Places.{pushed}
use Rattle.system.proofs.Images.{with_frames, stack_is}
use Rattle.system.proofs.Rooms.{room_of, both_pass}
use Rattle.system.proofs.thread.Thread.enter_frame.Goals as goal

pub returns : goal.returns
returns c = λ t same.
    let facts = room_of c.args.self.now (search rules) in
    let published : t.published ≡ true = sym same.published ∙ facts.0 in
    let room : nat_lt (length t.stack) 256 ≡ true = ap (λ s. nat_lt (length s) 256) (sym same.image.frames) ∙ facts.1 in
    let frame : Frame = record { method = c.args.method; code = c.args.code } in
    rw (both_pass t.published (nat_lt (length t.stack) 256) (pushed t c.args.method c.args.code) published room) (
      refl,
      record {
        name = same.name;
        state = same.state;
        held = same.held;
        published = same.published;
        image = with_frames c.args.self.now.image c.put.new.self t (t.stack ++ frame ∷ []) same.image c.requires.closed (stack_is c.args.self.now.image c.put.new.self (c.args.self.now.image.frames ++ frame ∷ []) (t.stack ++ frame ∷ []) (ap (λ s. s ++ frame ∷ []) same.image.frames) c.put.ensures);
      },
      record { name = refl; counted = c.put.ensures.counted_stay; marks_are = refl; moments_are = refl },
    )
