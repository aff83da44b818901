-- What a new system of the log's sizes answers.
use Rattle.std.proofs.Common.{◌≡◌, ◌∙◌, true, List, [], ap}
use Rattle.system.specs.declared.events.Event.{Event}
use Rattle.system.specs.declared.answers.Answer.{Answer}
use Rattle.system.specs.declared.keeping.Core.{Core}
use Rattle.system.specs.World.{start_world}
use Rattle.system.specs.Runs.{answers}
use Rattle.system.specs.Stands.{are_sizes, places_of, slots_of, methods_of, world_by}
use Rattle.call_log.specs.declared.log.Log.{Log}
use Rattle.witness_check.specs.Walk.{AreAnswers}

pub told_all : (s : Core) (log : Log) (events : List Event) (said : List Answer) → places_of s ≡ log.places → slots_of s ≡ log.slots → methods_of s ≡ log.methods → said ≡ answers (world_by s []) events → are_sizes log.places log.slots log.methods ≡ true → AreAnswers log events said
told_all s log events said p q m e sized = record {
  sized = sized;
  all = e
      ∙ ap (λ x. answers (start_world x (slots_of s) (methods_of s)) events) p
      ∙ ap (λ x. answers (start_world log.places x (methods_of s)) events) q
      ∙ ap (λ x. answers (start_world log.places log.slots x) events) m;
}
