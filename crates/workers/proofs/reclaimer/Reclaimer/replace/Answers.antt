use Rattle.std.proofs.Common.{rules, ◌≡◌, ◌∙◌, ◌<◌, ap, sym, subst, length, slice_index}
use Rattle.std.proofs.lemmas.Grind.{get_or_default_zero}
use Rattle.workers.specs.Replacing.{Codes}
use Rattle.workers.proofs.Replacements.{kept_from, kept_by}
use Rattle.workers.proofs.reclaimer.Reclaimer.replace.Goals as goal

pub returns : goal.returns
returns g c =
    let low : c.args.method < length c.self.inside.in_use.items = subst (λ (s : Codes). c.args.method < length s.in_use) (sym c.self.view_is) c.requires in
    let code : c.index-old.result.now ≡ slice_index c.args.self.now.in_use c.args.method =
    c.index-old.ensures ∙ get_or_default_zero c.self.inside.in_use.items c.args.method c.index-old.result.now low
    ∙ ap (λ (s : Codes). slice_index s.in_use c.args.method) c.self.view_is in
    let freed : c.self.inside.freed.items ≡ c.args.self.now.freed = ap (λ (s : Codes). s.freed) c.self.view_is in
    let left : c.self.inside.left.items ≡ c.args.self.now.left = ap (λ (s : Codes). s.left) c.self.view_is in (
      c.in_ok-new.new,
      c.in_ok-new.receipt,
      c.in_ok-new.ensures,
      search rules,
      search rules,
      kept_from _ _ _ _ _ _ _ _ code freed left (kept_by _ _ _ _ _ _ _ _ c.in_ok-reclaimed.ensures.freed c.in_ok-reclaimed.ensures.left c.in_ok-keep.ensures.kept),
    )
