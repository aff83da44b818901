use Rattle.std.proofs.Common.{◌≡◌, ◌∙◌, refl, sym, ap, subst, inr, rules, Some}
use Rattle.desk.specs.declared.entries.Entry.TheVariants.{Exit}
use Rattle.thread_list.specs.Moves.{Running, IsOf, IsKept}
use Rattle.thread_list.specs.Refused.{HasNoFrame}
use Rattle.thread_list.proofs.Turned.{vacated_of, kept_of, no_frame}
use Rattle.thread_list.proofs.mutator.Mutator.exit.Goals as goal

pub returns-in-Ok-clause-vacated : goal.returns-in-Ok-clause-vacated
returns-in-Ok-clause-vacated g c =
    let i = c.thread.inside in let body = c.take_body-body.result in
    let mine : IsOf i.name i.place (Some body) = subst (IsOf i.name i.place) c.take_body-body.ensures c.thread.invariant.own in
    vacated_of c.args.self.place c.args.self.name body.seat.place body.name c.enter_exit.result.vacated c.in-Ok.vacated
    (mine.1 ∙ ap (λ (v : Running). v.place) (c.thread.view_is ∙ c.self.view_is)) (mine.0 ∙ ap (λ (v : Running). v.name) (c.thread.view_is ∙ c.self.view_is)) c.enter_exit.ensures.vacated.0 c.in-Ok.ensures.vacated

pub returns-in-Ok-clause-exited : goal.returns-in-Ok-clause-exited
returns-in-Ok-clause-exited g c =
    let i = c.thread.inside in let body = c.take_body-body.result in
    let mine : IsOf i.name i.place (Some body) = subst (IsOf i.name i.place) c.take_body-body.ensures c.thread.invariant.own in
    let zero : c.depth.result ≡ 0 = search rules in
    let within = sym (ap (λ (v : Running). v.body) c.thread.view_is) ∙ c.take_body-body.ensures in
    let here : c.args.self.body ≡ Some body = sym (ap (λ (v : Running). v.body) c.self.view_is) ∙ within in
    let bare : HasNoFrame c.args.self.body = no_frame c.args.self.body body c.depth.result here (c.depth.ensures.deep body within) zero in
    (c.enter_exit.ensures.exit ∙ ap Exit (c.in-Ok.ensures.vacated.0.1 ∙ mine.0 ∙ ap (λ (v : Running). v.name) (c.thread.view_is ∙ c.self.view_is)), search rules, bare)

pub returns-clause-refused : goal.returns-clause-refused
returns-clause-refused g c =
    let i = c.thread.inside in let body = c.take_body-body.result in
    let mine : IsOf i.name i.place (Some body) = subst (IsOf i.name i.place) c.take_body-body.ensures c.thread.invariant.own in
    let kept : IsKept c.args.self.place c.args.self.name c.in-Err.crossed (Some c.in-Err.body) =
    kept_of c.args.self.place c.args.self.name body.seat.place body.name c.in-Err.crossed (Some c.in-Err.body)
    (mine.1 ∙ ap (λ (v : Running). v.place) (c.thread.view_is ∙ c.self.view_is)) (mine.0 ∙ ap (λ (v : Running). v.name) (c.thread.view_is ∙ c.self.view_is)) c.in-Err.ensures.kept in
    let zero : c.depth.result ≡ 0 = search rules in
    let within = sym (ap (λ (v : Running). v.body) c.thread.view_is) ∙ c.take_body-body.ensures in
    let here : c.args.self.body ≡ Some body = sym (ap (λ (v : Running). v.body) c.self.view_is) ∙ within in
    let bare : HasNoFrame c.args.self.body = no_frame c.args.self.body body c.depth.result here (c.depth.ensures.deep body within) zero in
    inr (search rules, bare, refl, refl, search rules, search rules, kept)
