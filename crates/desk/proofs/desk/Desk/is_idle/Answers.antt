use Rattle.std.proofs.Common.{◌≡◌, ◌∙◌, sym, subst, rules, length}
use Rattle.std.specs.Prelude.{◌&&◌, ◌==◌, map}
use Rattle.std.proofs.lemmas.List.{length-map}
use Rattle.desk.specs.Machine.{State}
use Rattle.desk.specs.Fields.{DeskSeen, at, current_of, asked_of}
use Rattle.desk.specs.Refusals.{is_idle}
use Rattle.desk.proofs.desk.Desk.is_idle.Goals as goal

pub returns : goal.returns
returns g c =
    let i = c.self.inside in
    let a : length (map (current_of {J = g.row.J.Denot}) i.opened.items) ≡ length i.opened.items = length-map i.opened.items current_of in
    let b : length (map (asked_of {J = g.row.J.Denot}) i.queue) ≡ length i.queue = length-map i.queue asked_of in
    let said : c.is_idle.result ≡ ((length i.opened.items == 0) && (length i.queue == 0)) = search rules in
    subst (λ (d : DeskSeen). c.is_idle.result ≡ is_idle (at d)) c.self.view_is
    (subst (λ (s : State). c.is_idle.result ≡ is_idle s) (sym c.self.invariant.kept.state) (said ∙ (λ k. (sym a k == 0) && (sym b k == 0))))
