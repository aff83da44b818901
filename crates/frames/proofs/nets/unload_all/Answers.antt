use Rattle.std.proofs.Common.{◌≡◌, ◌+◌, ◌∷◌, List, ℕ, drop, get_or, subst, rules}
use Rattle.std.proofs.lemmas.List.{drop_more}
use Rattle.frames.specs.Nets.{AreNetsAmong}
use Rattle.frames.proofs.nets.unload_all.Goals as goal

pub loop-place-preserved : goal.loop-place-preserved
loop-place-preserved c =
    let i = c.loop-place.place-index in
    let touched = c.args.touched.now in
    let next : drop i touched ≡ get_or touched i 0 ∷ drop (i + 1) touched = drop_more touched i 0 c.loop-place-test.true in (
      c.unload.ensures.cells,
      search rules,
      c.unload.ensures.nets (drop (i + 1) touched) (subst (λ (places : List ℕ). AreNetsAmong c.loop-place.cells.items places) next c.loop-place.invariant.2),
      c.unload.ensures.touched touched c.loop-place.invariant.3,
      search rules,
      search rules,
    )
