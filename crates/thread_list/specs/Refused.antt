-- Why a call of a mutator is refused: its own test holds, and those before it don't.
use Rattle.std.specs.Prelude.{◌≡◌, ◌≢◌, ◌<◌, ◌≤◌, ℕ, true, false, [], Option, Some, None, length}
use Rattle.thread_state.specs.declared.State.TheVariants.{InJava}
use Rattle.thread_state.specs.declared.Back.TheVariants.{Java}
use Rattle.bodies.specs.Bodies.{BodyView, IsPublished}
use Rattle.berths.specs.Berths.{Berthing}
use Rattle.thread_list.specs.Moves.{Running, GoesBack, is_running}
use Rattle.thread_list.specs.Rooms.{KeepsName}
use Rattle.thread_list.specs.declared.ends.VacateFault.{VacateFault}
use Rattle.thread_list.specs.declared.ends.VacateFault.TheVariants as vacate
use Rattle.thread_list.specs.declared.polls.Poll.{Poll}
use Rattle.thread_list.specs.declared.faults.CallFault.{CallFault}
use Rattle.thread_list.specs.declared.faults.CallFault.TheVariants as call
use Rattle.thread_list.specs.declared.faults.ExitFault.{ExitFault}
use Rattle.thread_list.specs.declared.faults.ExitFault.TheVariants as exit
use Rattle.thread_list.specs.declared.faults.ReturnFault.{ReturnFault}
use Rattle.thread_list.specs.declared.faults.ReturnFault.TheVariants as returns

-- The stack has no room for a frame.
abbrev pub IsDeep : Option BodyView → Type 0
IsDeep None = Unit {0}
IsDeep (Some p) = 256 ≤ length p.image.frames

abbrev pub HasNoFrame : Option BodyView → Type 0
HasNoFrame None = Unit {0}
HasNoFrame (Some p) = p.image.frames ≡ []

-- The stack has room for one more frame.
abbrev pub HasRoom : Option BodyView → Type 0
HasRoom None = Unit {0}
HasRoom (Some p) = length p.image.frames < 256

-- What a call needs: that the thread is in Java, that there is the method, and room for its frame.
abbrev pub call_accepted : Running → ℕ → Type 0
call_accepted m method = (m.state ≡ InJava) × (method < m.methods) × HasRoom m.body

abbrev pub call_refused : Running → ℕ → CallFault → Type 0
call_refused m method (call.Illegal s) = (s ≡ m.state) × (m.state ≢ InJava)
call_refused m method call.NoSuchMethod = (m.state ≡ InJava) × (m.methods ≤ method)
call_refused m method call.DepthFull = (m.state ≡ InJava) × (method < m.methods) × IsDeep m.body

abbrev pub return_refused : Running → ReturnFault → Type 0
return_refused m (returns.Illegal s) = (s ≡ m.state) × (m.state ≢ InJava)
return_refused m returns.EmptyStack = (m.state ≡ InJava) × HasNoFrame m.body

-- The stack has a frame.
abbrev pub HasFrames : Option BodyView → Type 0
HasFrames None = Unit {0}
HasFrames (Some p) = 0 < length p.image.frames

abbrev pub exit_refused : Running → ExitFault → Type 0
exit_refused m (exit.Illegal s) = (s ≡ m.state) × (is_running m.state ≡ false)
exit_refused m exit.StackNotEmpty = (is_running m.state ≡ true) × HasFrames m.body

-- A thread published its empty stack, and polled on its way into Java.
abbrev pub PollsOn : Running → Running → Poll → Type 0
PollsOn old new said
    = (new.crossed ≡ old.crossed)
    × ((before : BodyView) × (published : BodyView) × (old.body ≡ Some before) × (before.image.frames ≡ []) × IsPublished before published × GoesBack published new Java said)

-- Why a thread doesn't give its place up, and what it is then: as it was, or it has polled, since its room doesn't let it go.
abbrev pub vacate_refused : {N : Type 0} → Berthing N → Running → Running → VacateFault → Type 0
vacate_refused room m n (vacate.Refused fault) = exit_refused m fault × (n ≡ m)
vacate_refused room m n (vacate.Told said) = (is_running m.state ≡ true) × KeepsName room m.name m.place × PollsOn m n said
