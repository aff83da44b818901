use Rattle.std.proofs.Common.{refl, rules}
use Rattle.system.proofs.Images.{begun}
use Rattle.system.proofs.thread.Thread.begin.Goals as goal

pub returns-in-Ok : goal.returns-in-Ok
returns-in-Ok c = λ w t same. (
  refl,
  record {
    name = same.name;
    state = same.state;
    held = same.held;
    published = same.published;
    image = begun c.args.self.now.image c.begin.new.self t same.image c.requires c.in-Ok.ensures.ok;
  },
  record { name = refl; counted = λ code. search rules; marks_are = refl; moments_are = refl },
)
