-- Laws of every world, after any events in any order.
use Rattle.std.specs.Prelude.{◌≡◌, ℕ, Bool, true, false, List, Some, slice_get}
use Rattle.method_table.specs.declared.Code.{Code}
use Rattle.method_table.specs.declared.CodeState.{CodeState}
use Rattle.method_table.specs.declared.CodeState.TheVariants.{Zombie, Freed}
use Rattle.system.specs.declared.events.Event.{Event}
use Rattle.thread_state.specs.States.{is_safe}
use Rattle.frames.specs.Stack.{act}
use Rattle.method_table.specs.Codes.{id_of}
use Rattle.system.specs.Threads.{Thread}
use Rattle.system.specs.World.{World, start_world, thread_at}
use Rattle.system.specs.Runs.{world_after}

-- A held thread is in a safe state. (JEP 312: a safepoint-safe state)
abbrev pub HeldIsSafe : Thread → Type 0
HeldIsSafe t = t.held ≡ true → is_safe t.state ≡ true

-- Every held thread of the world is in a safe state.
abbrev pub AllHeldAreSafe : World → Type 0
AllHeldAreSafe w = (place : ℕ) (t : Thread) → thread_at w place ≡ Some t → HeldIsSafe t

-- After any events, each held thread is in a safe state.
abbrev pub HeldThreadsAreSafe : Type 0
HeldThreadsAreSafe = (places slots methods : ℕ) (events : List Event) → AllHeldAreSafe (world_after (start_world places slots methods) events)

-- Code of which no frame may stand: a zombie, or freed code. (nmethod)
abbrev pub is_retired : CodeState → Bool
is_retired Zombie = true
is_retired Freed = true
is_retired state = false

-- No frame of a zombie or freed code stands on a stack.
abbrev pub NoRetiredCodeStands : World → Type 0
NoRetiredCodeStands w = (position place : ℕ) (code : Code) (t : Thread) → slice_get w.codes position ≡ Some code → is_retired code.state ≡ true
    → thread_at w place ≡ Some t → act (id_of code) t.stack ≡ 0

-- After any events, no frame of such code stands on a stack.
abbrev pub RetiredCodesStandNowhere : Type 0
RetiredCodesStandNowhere = (places slots methods : ℕ) (events : List Event) → NoRetiredCodeStands (world_after (start_world places slots methods) events)
