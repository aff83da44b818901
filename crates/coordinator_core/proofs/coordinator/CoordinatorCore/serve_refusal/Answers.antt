use Rattle.std.proofs.Common.{◌≡◌, ◌<◌, ◌∙◌, List, Some, refl, sym, ap, subst, length}
use Rattle.std.specs.Prelude.{slice_get, slice_index}
use Rattle.std.proofs.lemmas.Option.{slice_get_read}
use Rattle.bodies.specs.Bodies.{BodyView}
use Rattle.desk.specs.Fields.{at}
use Rattle.desk.specs.Targets.{standing, progress}
use Rattle.stopped_threads.specs.Holding.{Holding}
use Rattle.stopped_threads.specs.Refused.{serve_fault}
use Rattle.coordinator_core.proofs.coordinator.CoordinatorCore.serve_refusal.Goals as goal

pub returns : goal.returns
returns g c =
    let bs = c.as_slice.result.now in let s = at c.args.desk.now in let body = c.index-as_slice-index.result in
    let same : bs ≡ c.args.self.now.held = c.as_slice.ensures.value ∙ ap (λ (v : Holding). v.held) c.self.view_is in
    let low : c.args.index < length bs = subst (λ (xs : List BodyView). c.args.index < length xs) (sym same) c.requires.index in
    let here : slice_get bs c.args.index ≡ Some body = slice_get_read bs _ c.args.index body refl low c.index-as_slice-index.is in
    let held : slice_get c.args.self.now.held c.args.index ≡ Some body = subst (λ (xs : List BodyView). slice_get xs c.args.index ≡ Some body) same here in
    let last : c.last-last.result ≡ slice_index c.args.self.now.armer.armed c.args.place = c.last-last.ensures ∙ ap (λ (v : Holding). slice_index v.armer.armed c.args.place) c.self.view_is in
    (body, held, sym (c.serve_fault_of.ensures ∙ (λ k. serve_fault (standing s (c.name-name.ensures k)) (progress s (c.name-name.ensures k) (last k)))))
