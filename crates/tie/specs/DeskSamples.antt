-- The entries of worked runs, one by one, and the state of the desk in the middle of one run.
use Rattle.std.specs.Prelude.{◌≡◌, ℕ, true, false, List, [], ◌∷◌, map, take, None}
use Rattle.operations.specs.declared.Ask.TheVariants.{Depth, Top}
use Rattle.operations.specs.declared.Request.{Request}
use Rattle.operations.specs.declared.Request.TheVariants.{Handshake, Census}
use Rattle.frames.specs.BoardRule.{code}
use Rattle.system.specs.declared.events.Event.{Event}
use Rattle.system.specs.Log.{Entry as Logged}
use Rattle.system.specs.World.{World, start_world}
use Rattle.system.specs.declared.events.Event.TheVariants as event
use Rattle.system.specs.declared.answers.Answer.TheVariants as answer
use Rattle.system.specs.declared.answers.Refusal.TheVariants as refusal
use Rattle.system.specs.Runs.{answer_to, world_after}
use Rattle.rows.specs.Rows.{four_handshakes, two_operations_in_turn, safepoint_of_two_threads, install_over, started_after_open, reclaimed_after_use}
use Rattle.rows.specs.Traps.{own_live_targets}
use Rattle.desk.specs.declared.entries.Entry.{Entry}
use Rattle.desk.specs.declared.entries.Entry.TheVariants.{Start, Exit, Ask, Open, Finish, Operate, Close, Install, Invalidate, Retire, Free}
use Rattle.desk.specs.Machine.{State, lawful, Current, start, legal_from, after_from}
use Rattle.desk.specs.Once.{replies_of}
use Rattle.tie.specs.DeskOf.{desk_of, entries_of_run, replies_in}

abbrev pub events_of : List Logged → List Event
events_of run = map (λ line. line.event) run

-- In a core with these numbers of places and slots, and 2 methods, the run makes these entries.
abbrev pub Enters : ℕ → ℕ → List Logged → List Entry → Type 0
Enters places slots run entries = entries_of_run (start_world places slots 2) (events_of run) ≡ entries

abbrev pub depth : List ℕ → Request
depth targets = Handshake targets Depth

-- Two handshakes are closed out of order. A target name that was never live makes no entry.
abbrev pub entries_of_four : List Entry
entries_of_four =
    Start 1 0 ∷ Ask 1 (depth (1 ∷ [])) ∷ Ask 2 (Handshake (1 ∷ []) Top) ∷ Ask 3 (depth (1 ∷ [])) ∷ Ask 4 (depth (2 ∷ [])) ∷ Ask 5 Census
    ∷ Open 1 ∷ Open 2 ∷ Open 3 ∷ Open 4 ∷ Finish 1 1 1 ∷ Close 1 ∷ Finish 2 1 0 ∷ Finish 3 1 1 ∷ Close 3 ∷ Close 2 ∷ Close 4 ∷ Open 5 ∷ []

abbrev pub FourHandshakes : Type 0
FourHandshakes =
    Enters 1 4 four_handshakes entries_of_four
    × (legal_from (start 4 2) entries_of_four ≡ true)
    × (map (λ n. replies_of n entries_of_four) (1 ∷ 2 ∷ 3 ∷ 4 ∷ []) ≡ ((1, 1) ∷ []) ∷ ((1, 0) ∷ []) ∷ ((1, 1) ∷ []) ∷ [] ∷ [])
    × (map (λ n. replies_in n (start_world 1 4 2) (events_of four_handshakes)) (1 ∷ 2 ∷ 3 ∷ 4 ∷ []) ≡ ((1, 1) ∷ []) ∷ ((1, 0) ∷ []) ∷ ((1, 1) ∷ []) ∷ [] ∷ [])

abbrev pub open_with : ℕ → Request → ℕ → List ℕ → Current
open_with number request left due = record { number = number; request = request; before = 2; left = left; due = due; operated = false }

-- The thread has finished the first handshake. That one keeps room only for its Close; the fourth keeps room for a Finish that never
-- comes.
abbrev pub first_is_done : State
first_is_done = record {
  next_name = 2;
  live = record { name = 1; place = 0 } ∷ [];
  next_number = 6;
  waiting = record { number = 5; request = Census } ∷ [];
  opened = open_with 1 (depth (1 ∷ [])) 0 [] ∷ open_with 2 (Handshake (1 ∷ []) Top) 1 (1 ∷ []) ∷ open_with 3 (depth (1 ∷ [])) 1 (1 ∷ []) ∷ open_with 4 (depth (2 ∷ [])) 1 [] ∷ [];
  table = record { codes = []; slots = 4; methods = 2 };
}

abbrev pub FirstIsDone : Type 0
FirstIsDone = (desk_of (world_after (start_world 1 4 2) (events_of (take 21 four_handshakes))) ≡ first_is_done) × (after_from (start 4 2) (take 11 entries_of_four) ≡ first_is_done)

abbrev pub Safepoint : Type 0
Safepoint = Enters 3 4 safepoint_of_two_threads (Start 1 0 ∷ Start 2 1 ∷ Install (code 0 1) 0 ∷ Ask 1 Census ∷ Open 1 ∷ Operate 1 ∷ Close 1 ∷ Start 3 2 ∷ [])

-- An Install over code in use makes two entries.
abbrev pub InstallOver : Type 0
InstallOver =
    Enters 1 4 install_over (Start 1 0 ∷ Install (code 0 1) 0 ∷ Invalidate 1 ∷ Install (code 1 2) 0 ∷ Invalidate 2 ∷ Install (code 2 3) 0 ∷ Invalidate 3 ∷ Install (code 3 4) 0 ∷ [])

abbrev pub StartedAfterOpen : Type 0
StartedAfterOpen = Enters 1 4 started_after_open (Start 1 0 ∷ Ask 1 (depth (1 ∷ 2 ∷ [])) ∷ Open 1 ∷ Finish 1 1 0 ∷ Exit 1 ∷ Start 2 0 ∷ Close 1 ∷ [])

abbrev pub ReclaimedAfterUse : Type 0
ReclaimedAfterUse = Enters 1 4 reclaimed_after_use (Start 1 0 ∷ Install (code 0 1) 0 ∷ Invalidate 1 ∷ Retire 1 ∷ Free 1 ∷ [])

abbrev pub OwnLiveTargets : Type 0
OwnLiveTargets = Enters 1 1 own_live_targets (Ask 1 (depth (1 ∷ [])) ∷ Open 1 ∷ Start 1 0 ∷ Ask 2 (depth (1 ∷ [])) ∷ Open 2 ∷ Close 1 ∷ Finish 2 1 0 ∷ Close 2 ∷ [])

-- The thread has finished its handshake and isn't cleared. The core refuses a Close here, and the desk's machine would allow it.
abbrev pub done_uncleared : World
done_uncleared = world_after (start_world 1 4 2) (events_of (take 17 two_operations_in_turn))

abbrev pub DoneStandsForCleared : Type 0
DoneStandsForCleared = (answer_to done_uncleared (event.Close None) ≡ answer.Refused refusal.NotDone) × (lawful (desk_of done_uncleared) (Close 1) ≡ true)
