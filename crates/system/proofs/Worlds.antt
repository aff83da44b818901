-- Every reachable world is sound.
use Rattle.std.proofs.Common.{ℕ, List, ◌<◌, None, ap, ◌∙◌, subst}
use Rattle.std.specs.Prelude.{not}
use Rattle.std.proofs.lemmas.List.{length-replicate}
use Rattle.system.specs.declared.events.Event.{Event}
use Rattle.system.specs.World.{World, start_world}
use Rattle.system.specs.Runs.{world_after}
use Rattle.system.specs.Facts.{FramesAreSound, LogIsSound, IsSound, WorldsAreSound}
use Rattle.system.proofs.Sound.{IsKept, kept_after, kept_start, counts_sound, same_sizes}
use Rattle.system.proofs.ReclaimInvariant.{IsReclaimed, is_unused}
use Rattle.system.proofs.NoRetiredStands.{reclaimed, covered_is}

frames_sound : (w : World) → IsReclaimed w.places w.codes w.log → FramesAreSound w
frames_sound w h = record {
  live = λ p t c x some. (let m = h.seats p t x in m.live c some);
  counted = λ p t c x some. (let m = h.seats p t x in m.counted c some);
}

log_sound : (w : World) → IsReclaimed w.places w.codes w.log → LogIsSound w
log_sound w h = record {
  in_use_stays = λ s k is used. h.table.invalidated_is s ∙ (ap is_unused is ∙ ap not used);
  looked_after = h.table.looked_by;
  covered_is = covered_is w h;
  published_from = λ p t x published. (let m = h.seats p t x in subst (λ n. 0 < n) m.ended_is (m.closed published));
}

is_sound : (w : World) → IsKept w → IsReclaimed w.places w.codes w.log → IsSound w
is_sound w h r = record { table = h.table; threads = h.threads; numbers = h.numbers; marks = h.marks; operated = h.operated; counts = counts_sound w h.threads; frames = frames_sound w r; log = log_sound w r; held_safe = h.safe }

pub worlds_are_sound : WorldsAreSound
worlds_are_sound places slots methods events =
    let w : World = world_after (start_world places slots methods) events in
    let sizes = same_sizes (start_world places slots methods) events (kept_start places slots methods).table in (
      is_sound w (kept_after (start_world places slots methods) events (kept_start places slots methods)) (reclaimed places slots methods events),
      record { places_are = sizes.0 ∙ length-replicate places None; slots_are = sizes.1; methods_are = sizes.2 },
    )

pub held_are_safe : (places slots methods : ℕ) (events : List Event) → Rattle.system.specs.Laws.AllHeldAreSafe (world_after (start_world places slots methods) events)
held_are_safe places slots methods events p t e =
    (Rattle.system.proofs.Sound.kept_after (start_world places slots methods) events (Rattle.system.proofs.Sound.kept_start places slots methods)).safe p t (Rattle.system.proofs.Seats.there_of (world_after (start_world places slots methods) events) p t e)
