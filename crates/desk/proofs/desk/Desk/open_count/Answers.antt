use Rattle.std.proofs.Common.{◌≡◌, ◌∙◌, sym, ap, subst, rules, length}
use Rattle.std.proofs.lemmas.List.{length-map}
use Rattle.desk.specs.Machine.{State}
use Rattle.desk.specs.Fields.{DeskSeen, at, current_of}
use Rattle.desk.proofs.desk.Desk.open_count.Goals as goal

pub returns : goal.returns
returns g c =
    let i = c.self.inside in
    let said : c.len.result ≡ length i.opened.items = search rules in
    subst (λ (d : DeskSeen). c.len.result ≡ length (at d).opened) c.self.view_is
    (said ∙ sym (length-map i.opened.items (current_of {J = g.row.J.Denot})) ∙ sym (ap (λ (s : State). length s.opened) c.self.invariant.kept.state))
