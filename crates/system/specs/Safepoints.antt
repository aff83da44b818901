-- An operation runs on the published stack of a thread at a safe point.
use Rattle.std.specs.Prelude.{◌≡◌, ◌⊎◌, ℕ, ◌<◌, Bool, true, false, List, [], ◌∷◌, ◌++◌, Some, slice_get}
use Rattle.frames.specs.declared.CodeId.{CodeId}
use Rattle.operations.specs.declared.Ask.{Ask}
use Rattle.operations.specs.declared.Request.TheVariants.{Handshake}
use Rattle.system.specs.declared.events.Act.TheVariants as act
use Rattle.system.specs.declared.events.Event.{Event}
use Rattle.system.specs.declared.events.Event.TheVariants as event
use Rattle.system.specs.declared.answers.Answer.{Answer}
use Rattle.system.specs.declared.answers.Answer.TheVariants as answer
use Rattle.thread_state.specs.States.{is_safe, is_serving}
use Rattle.frames.specs.Stack as stack
use Rattle.operations.specs.Asks as asks
use Rattle.operations.specs.Names.{among}
use Rattle.operations.specs.Requests.{is_census}
use Rattle.system.specs.Threads.{Thread, is_publishing}
use Rattle.system.specs.Operations.{Requests, Opened, is_marked, with_mark}
use Rattle.system.specs.World.{World, start_world, thread_at, walk, frames_of, census}
use Rattle.system.specs.Runs.{after, world_after, answer_to}
use Rattle.system.specs.Laws.{HeldIsSafe}
use Rattle.system.specs.Facts.{IsGiven}

-- The event was accepted.
abbrev pub is_accepted : Answer → Bool
is_accepted (answer.Refused refusal) = false
is_accepted other = true

-- No publication is open, and every code has as many frames in the stack as in the shown stack.
pub record IsSettled (t : Thread) : Type 0 where
  pub quiet : is_publishing t ≡ false
  pub counts : (code : CodeId) → stack.act code t.stack ≡ stack.act code t.shown

-- The thread is held or serves itself. (JEP 312: by the thread itself or by the coordinator while it keeps the thread
-- blocked)
abbrev pub IsAtSafePoint : Thread → Type 0
IsAtSafePoint t = (t.held ≡ true) ⊎ (is_serving t.state ≡ true)

-- The operation that a Finish of the thread does: it is open, told and not done, and each lesser open operation told to
-- the thread is done.
pub record IsNext (requests : Requests) (name : ℕ) (opened : Opened) : Type 0 where
  pub position : ℕ
  pub is_open : slice_get requests.opened position ≡ Some opened
  pub told : is_marked requests.told opened.number name ≡ true
  pub not_done : is_marked requests.done opened.number name ≡ false
  pub least : (i : ℕ) (o : Opened) → slice_get requests.opened i ≡ Some o → is_marked requests.told o.number name ≡ true → o.number < opened.number
      → is_marked requests.done o.number name ≡ true

-- A Finish at the place with this answer. The thread is settled and at a safe point, and in a safe state if held. Its
-- next operation is a handshake that lists it. The reply is that of the ask for its stack, and only this handshake
-- becomes done for it.
pub record FinishesSafely (w : World) (place : ℕ) (said : Answer) (later : World) : Type 0 where
  pub thread : Thread
  pub there : thread_at w place ≡ Some thread
  pub settled : IsSettled thread
  pub safe_point : IsAtSafePoint thread
  pub held_safe : HeldIsSafe thread
  pub opened : Opened
  pub next : IsNext w.requests thread.name opened
  pub targets : List ℕ
  pub ask : Ask
  pub handshake : opened.request ≡ Handshake targets ask
  pub listed : among thread.name targets ≡ true
  pub reply : said ≡ answer.Reply (asks.reply ask thread.stack)
  pub done : later.requests ≡ record w.requests { done = with_mark w.requests.done opened.number thread.name }

-- A thread at a safepoint.
pub record StandsStill (t : Thread) : Type 0 where
  pub settled : IsSettled t
  pub held : t.held ≡ true
  pub safe : is_safe t.state ≡ true

-- An Operate with this answer. Each thread is settled and held in a safe state, so the index counts the stacks as they
-- are. The answer is the census of these stacks, without a missing code.
pub record OperatesSafely (w : World) (said : Answer) : Type 0 where
  pub opened : Opened
  pub opened_is : w.requests.opened ≡ opened ∷ []
  pub is_a_census : is_census opened.request ≡ true
  pub each : (place : ℕ) (t : Thread) → thread_at w place ≡ Some t → StandsStill t
  pub index : (code : CodeId) → walk w code ≡ frames_of w code
  pub complete : (code : CodeId) → 0 < frames_of w code → IsGiven w.codes code
  pub answer_is : said ≡ answer.Census (census w)

-- Each accepted Finish among the events is safe in the world before it.
abbrev pub FinishesAtSafePoints : ℕ → ℕ → ℕ → List Event → Type 0
FinishesAtSafePoints places slots methods events = (before rest : List Event) (place : ℕ) → events ≡ before ++ event.At place act.Finish ∷ rest
    → is_accepted (answer_to (world_after (start_world places slots methods) before) (event.At place act.Finish)) ≡ true
    → FinishesSafely (world_after (start_world places slots methods) before) place (answer_to (world_after (start_world places slots methods) before) (event.At place act.Finish))
    (after (world_after (start_world places slots methods) before) (event.At place act.Finish))

-- Each accepted Operate among the events is safe in the world before it.
abbrev pub OperatesAtSafepoints : ℕ → ℕ → ℕ → List Event → Type 0
OperatesAtSafepoints places slots methods events = (before rest : List Event) → events ≡ before ++ event.Operate ∷ rest
    → is_accepted (answer_to (world_after (start_world places slots methods) before) event.Operate) ≡ true
    → OperatesSafely (world_after (start_world places slots methods) before) (answer_to (world_after (start_world places slots methods) before) event.Operate)

-- This holds for any events.
abbrev pub HandshakesRunAtSafePoints : Type 0
HandshakesRunAtSafePoints = (places slots methods : ℕ) (events : List Event) → FinishesAtSafePoints places slots methods events

abbrev pub CensusesRunAtSafepoints : Type 0
CensusesRunAtSafepoints = (places slots methods : ℕ) (events : List Event) → OperatesAtSafepoints places slots methods events
