use Rattle.std.proofs.Common.{◌≡◌, ◌∙◌, sym, ap, refl}
use Rattle.std.proofs.lemmas.Option.{slice_get_read}
use Rattle.desk.specs.declared.entries.Opened.{Opened}
use Rattle.desk.proofs.Newest.{same_at}
use Rattle.desk.specs.Fields.{current_of, names_left}
use Rattle.desk.specs.JobsFit.{without_first}
use Rattle.desk.proofs.lists.job_of.Goals as goal

pub returns-clause-step : goal.returns-clause-step
returns-clause-step g c = λ o is.
    let same : o ≡ c.index_mut.result.now = same_at c.args.opened.now.items c.args.place o c.index_mut.result.now is (slice_get_read c.args.opened.now.items _ c.args.place c.index_mut.result.now refl c.requires c.index_mut.ensures.value) in
    (c.job_in.new.request, c.job_in.ensures.same ∙ ap (λ (x : Opened g.row.J.Denot). current_of x) (sym same), refl, c.job_in.ensures.left ∙ ap (λ (x : Opened g.row.J.Denot). without_first c.args.name (names_left g.J.HandshakeOp.whom x)) (sym same))
