use Rattle.std.proofs.Common.{rules, ◌≡◌, ◌∙◌, ◌<◌, ◌+◌, subst, sym, ap, List, [], ◌∷◌, ◌++◌, length, get_or, take}
use Rattle.std.proofs.lemmas.List.{take_more}
use Rattle.workers.specs.Ended.{Reported}
use Rattle.workers.specs.declared.summary.Line.{Line}
use Rattle.workers.specs.Summaries.{AreLines}
use Rattle.workers.proofs.Lines.{line_more}
use Rattle.workers.proofs.summary.lines_of.Goals as goal

pub loop-report-preserved : goal.loop-report-preserved
loop-report-preserved g c =
    let was = c.loop-report.invariant in
    let one = c.in_ok-line.ensures in
    let at = c.loop-report.report-index in
    let below : c.loop-report.report-index < length c.args.reports.now = search rules in
    let there : get_or c.args.reports.now c.loop-report.report-index c.report-item.result ≡ c.report-item.result = search rules in
    let next : take (c.loop-report.report-index + 1) c.args.reports.now ≡ take c.loop-report.report-index c.args.reports.now ++ c.report-item.result ∷ [] =
    take_more c.args.reports.now at c.report-item.result below ∙ ap (λ (r : Reported). take c.loop-report.report-index c.args.reports.now ++ r ∷ []) there in
    let named : c.in_ok-line.line.name ≡ 1 + length c.loop-report.lines.items = search (rules, one) in (
      subst (λ (rs : List Reported). AreLines 1 rs c.push_reserved.new.self.items) (sym next)
          (subst (λ (ls : List Line). AreLines 1 (take c.loop-report.report-index c.args.reports.now ++ c.report-item.result ∷ []) ls) (sym c.push_reserved.ensures.items)
          (line_more 1 (take c.loop-report.report-index c.args.reports.now) c.loop-report.lines.items c.report-item.result c.in_ok-line.line was.0 named one.1)),
      search rules,
      search rules,
    )
