-- Covered is a comparison of two words.
use Rattle.std.proofs.Common.{sym, ap, ◌∙◌}
use Rattle.frames.specs.BoardStep.{is_past}
use Rattle.method_table.specs.Codes.{is_in_use, takes_slot}
use Rattle.system.specs.World.{World, start_world, thread_at}
use Rattle.system.specs.Runs.{world_after}
use Rattle.system.specs.Moments.{left_at, published_at}
use Rattle.system.proofs.Table.{code_serial}
use Rattle.system.proofs.NoRetiredStands.{covered_is}
use Rattle.tie.specs.BoardOf.{slot_by, IsCoveredByWords, CoveredComparesWords}
use Rattle.tie.proofs.Slots.{newest_of}
use Rattle.tie.proofs.Tied.{IsReached, reached}

pub by_words : (w : World) → IsReached w → IsCoveredByWords w
by_words w h serial place k is left =
    covered_is w h.reclaimed serial place k is (ap is_in_use left)
    ∙ (ap (λ n. is_past (left_at n w.log) (published_at w.log place (thread_at w place))) (sym (code_serial w.codes serial k is))
    ∙ ap (λ o. is_past (slot_by w.log o).left (published_at w.log place (thread_at w place))) (sym (newest_of w.slots w.methods w.codes h.kept.table h.tied.old_freed serial k is (ap takes_slot left))))

pub covered_compares_words : CoveredComparesWords
covered_compares_words places slots methods events = by_words (world_after (start_world places slots methods) events) (reached places slots methods events)
