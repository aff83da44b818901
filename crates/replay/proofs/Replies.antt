-- An event of the system is one of the world.
use Rattle.std.proofs.Common.{◌≡◌, ◌∙◌, ◌++◌, sym, ap, List, [], ◌∷◌, Option, Some, None, refl}
use Rattle.system.specs.declared.events.Event.{Event}
use Rattle.system.specs.declared.answers.Answer.{Answer}
use Rattle.system.specs.World.{World, start_world}
use Rattle.system.specs.Runs.{after, answer_to, world_after}
use Rattle.system.specs.Stands.{Next, SameSizes, world_by, places_of, slots_of, methods_of}
use Rattle.replay.specs.declared.grammar.Command.TheVariants.{Do}
use Rattle.replay.specs.declared.engine.Reply.TheVariants.{Answered}
use Rattle.replay.specs.Text.{SystemView, IsAt, Replied, reply_to, world_after_command}

-- One event more.
world_after_more : (w : World) (events : List Event) (event : Event) → world_after w (events ++ event ∷ []) ≡ after (world_after w events) event
world_after_more w [] event = refl
world_after_more w (first ∷ events) event = world_after_more (after w first) events event

-- Systems of the same sizes come to the same world.
same_worlds : (old new : SystemView) (events : List Event) → SameSizes old new → world_by new events ≡ world_by old events
same_worlds old new events sizes =
    ap (λ p. world_after (start_world p (slots_of new) (methods_of new)) events) sizes.places
    ∙ ap (λ s. world_after (start_world (places_of old) s (methods_of new)) events) sizes.slots
    ∙ ap (λ m. world_after (start_world (places_of old) (slots_of old) m) events) sizes.methods

pub replied : (old new : SystemView) (event : Event) (said : Answer) → Next old event said new → SameSizes old new → Replied (Some old) (Some (Do event)) (Answered said) (Some new)
replied old new event said does sizes = record { reply = says; next = goes }
  where
    says : (world : Option World) → IsAt (Some old) world → Answered said ≡ reply_to world (Some (Do event))
    says None at = absurd at
    says (Some w) at = ap Answered ((does at.0 at.1).0 ∙ ap (λ v. answer_to v event) (sym at.2))

    goes : (world : Option World) → IsAt (Some old) world → IsAt (Some new) (world_after_command world (Some (Do event)))
    goes None at = absurd at
    goes (Some w) at = (
      at.0 ++ event ∷ [],
      (does at.0 at.1).1,
      ap (λ v. after v event) at.2 ∙ sym (world_after_more (start_world (places_of old) (slots_of old) (methods_of old)) at.0 event) ∙ sym (same_worlds old new (at.0 ++ event ∷ []) sizes),
    )
