use Rattle.std.proofs.Common.{◌≡◌, ◌∙◌, ap, replicate, set}
use Rattle.frames.specs.Nets.{nothing_at}
use Rattle.std.proofs.lemmas.List.{length-set, length-replicate}
use Rattle.frames.proofs.Cells.{fresh_is, fresh_cells, fresh_among}
use Rattle.frames.proofs.nets.no_codes.Goals as goal

pub returns-clause-cells : goal.returns-clause-cells
returns-clause-cells c =
    let all : c.in_ok-cells.cells.items ≡ replicate 1024 (nothing_at 1) = c.in_ok-cells.ensures.items_if_clones_equal (λ y e. e) ∙ ap (replicate 1024) c.nothing_at.ensures in
    rw (c.nothing_at-2.ensures, all) (fresh_cells (set (replicate 1024 (nothing_at 1)) 0 (nothing_at 0)) (length-set (replicate 1024 (nothing_at 1)) 0 (nothing_at 0) ∙ length-replicate 1024 (nothing_at 1)) fresh_is)

pub returns-clause-none : goal.returns-clause-none
returns-clause-none c =
    let all : c.in_ok-cells.cells.items ≡ replicate 1024 (nothing_at 1) = c.in_ok-cells.ensures.items_if_clones_equal (λ y e. e) ∙ ap (replicate 1024) c.nothing_at.ensures in
    rw (c.nothing_at-2.ensures, all) (fresh_among (set (replicate 1024 (nothing_at 1)) 0 (nothing_at 0)) fresh_is)
