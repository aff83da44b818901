use Rattle.std.proofs.Common.{◌≡◌, ◌∙◌, sym, rules, true}
use Rattle.std.specs.Prelude.{is_some}
use Rattle.system.proofs.Nexts.{did_next}
use Rattle.system.proofs.thread.Thread.change.Goals as goal

pub returns : goal.returns
returns c = λ w t same.
    let open_ : c.args.self.now.image.publishing ≡ true = search rules in
    let opened : is_some t.changed ≡ true = sym same.image.publishing ∙ open_ in
    rw opened (did_next c.args.self.now c.next_change.new.self t c.next_change.result same open_ (c.next_change.ensures.code open_) c.next_change.ensures.counts c.next_change.ensures.none)
