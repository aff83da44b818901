-- An order, event by event.
use Rattle.std.specs.Prelude.{◌≡◌, ℕ, nat_le, max, Bool, true, false, not, ◌&&◌, List, [], ◌∷◌, map, slice_get, slice_set, Option, Some, None, option_and_then, if◌then◌else◌}
use Rattle.system.specs.declared.events.Event.{Event}
use Rattle.system.specs.declared.answers.Answer.{Answer}
use Rattle.system.specs.World.{start_world}
use Rattle.system.specs.Runs.{answers}
use Rattle.system.specs.Stands.{are_sizes}
use Rattle.call_log.specs.declared.entry.Entry.{Entry}
use Rattle.call_log.specs.declared.log.Log.{Log}
use Rattle.call_runs.specs.declared.stage.Stage.{Stage}
use Rattle.call_runs.specs.Whole.{next, first, is_over}
use Rattle.witness_check.specs.declared.walk.Walk.{Walk}
use Rattle.witness_check.specs.Streams.{all_rise}
use Rattle.witness_check.specs.Seen.{Sight, sight, nothing_seen, allows, noted}

-- The progress of all calls: the stage of each, the latest `before` ticket of a call that has made an event, and the state that the
-- answers determine.
pub record Walked : Type 0 where
  pub stages : List Stage
  pub latest : ℕ
  pub seen : Sight

abbrev pub walked : Walk → Walked
walked walk = record { stages = walk.stages.items; latest = walk.latest; seen = sight walk.seen }

abbrev pub before_end : ℕ → Option ℕ → Bool
before_end latest None = true
before_end latest (Some after) = nat_le latest after

-- The call makes no event after an event of a call that began once this one was over.
abbrev pub in_time : ℕ → Entry → Bool
in_time latest entry = before_end latest entry.after

abbrev pub moved : Walked → ℕ → Entry → Event → Answer → Option Stage → Option Walked
moved walk owner entry event said None = None
moved walk owner entry event said (Some made) = Some (record {
  stages = slice_set walk.stages owner made;
  latest = max walk.latest entry.before;
  seen = noted walk.seen event said;
})

abbrev pub stepped_by : Option Entry → Option Stage → Bool → Walked → ℕ → Event → Answer → Option Walked
stepped_by None stage recorded walk owner event said = None
stepped_by (Some entry) None recorded walk owner event said = None
stepped_by (Some entry) (Some stage) recorded walk owner event said =
    if not (in_time walk.latest entry) then None
    else if not (allows recorded walk.seen entry stage event said) then None
    else moved walk owner entry event said (next recorded entry stage event said)

-- One more event, made by the call of this number, with this answer; None where that isn't lawful.
abbrev pub stepped : Bool → List Entry → Walked → ℕ → Event → Answer → Option Walked
stepped recorded calls walk owner event said = stepped_by (slice_get calls owner) (slice_get walk.stages owner) recorded walk owner event said

-- All events, with the numbers of their calls and their answers.
abbrev pub walk : Bool → List Entry → Walked → List ℕ → List Event → List Answer → Option Walked
walk recorded calls now (owner ∷ owners) (event ∷ events) (said ∷ all) =
    option_and_then (λ then_. walk recorded calls then_ owners events all) (stepped recorded calls now owner event said)
walk recorded calls now [] [] [] = Some now
walk recorded calls now owners events all = None

abbrev pub all_over : Bool → List Entry → List Stage → Bool
all_over recorded [] stages = true
all_over recorded (entry ∷ calls) [] = false
all_over recorded (entry ∷ calls) (stage ∷ stages) = is_over recorded entry stage && all_over recorded calls stages

abbrev pub fresh_walk : List Entry → Walked
fresh_walk calls = record { stages = map first calls; latest = 0; seen = nothing_seen }

abbrev pub ends : Bool → List Entry → Option Walked → Bool
ends recorded calls None = false
ends recorded calls (Some now) = all_over recorded calls now.stages

-- The core has systems of the log's sizes.
abbrev pub is_sized : Log → Bool
is_sized log = are_sizes log.places log.slots log.methods

-- The core's answers to the events from the start.
abbrev pub answers_to : Log → List Event → List Answer
answers_to log events = answers (start_world log.places log.slots log.methods) events

pub record AreAnswers (log : Log) (events : List Event) (said : List Answer) : Type 0 where
  pub sized : is_sized log ≡ true
  pub all : said ≡ answers_to log events

-- The events, each of the call of its number, explain the log: with the core's answers each event is lawful, and at the end all calls are
-- over.
abbrev pub is_explained : Log → List Event → List ℕ → Bool
is_explained log events owners =
    is_sized log && all_rise log.calls.items
    && ends log.jobs log.calls.items (walk log.jobs log.calls.items (fresh_walk log.calls.items) owners events (answers_to log events))
