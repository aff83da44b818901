-- A run of the core in which a thread polls by each of the four acts, and both goes on and stops at each, with the steps that its events
-- make on the row.
use Rattle.std.specs.Prelude.{◌≡◌, List, [], ◌∷◌, ◌++◌}
use Rattle.thread_state.specs.declared.poll_rule.Deed.{Deed}
use Rattle.thread_state.specs.declared.poll_rule.Deed.TheVariants.{Load, Store, Exchange}
use Rattle.system.specs.declared.events.Event.{Event}
use Rattle.rows.specs.Lines.{start, install, begin, end, wake, cross, enter, enter_code, leave, edge, to_vm, from_vm, take, finish, clear, ask_depth, open_oldest, tell, close}
use Rattle.system.specs.World.{start_world}
use Rattle.tie.specs.PollRow.{PollDeed}
use Rattle.tie.specs.Followed.{polls_of_run}

-- In a core of two places, one slot and two methods the events make these steps on the row.
abbrev pub PollsBy : List Event → List PollDeed → Type 0
PollsBy events steps = polls_of_run (start_world 2 1 2) events ≡ steps

-- A step at place 1.
abbrev pub at_one : Deed → PollDeed
at_one deed = record { place = 1; deed = deed }

-- The second of two threads goes into Java and polls once by each of Cross, Edge, Leave and FromVm. Each poll goes on.
abbrev pub goes_on : List Event
goes_on = start ∷ start ∷ begin 1 ∷ end 1 ∷ wake 1 ∷ cross 1 ∷ install 0 ∷ enter_code 1 0 1 ∷ edge 1 ∷ leave 1 ∷ to_vm 1 ∷ from_vm 1 ∷ []

-- The thread stops at an Edge, and its next Edge is refused. Finished but not cleared, it stops again at a Cross. Once cleared, it goes
-- on.
abbrev pub stops_at_an_edge : List Event
stops_at_an_edge =
    ask_depth (2 ∷ []) ∷ open_oldest ∷ tell 2 ∷ edge 1 ∷ edge 1 ∷ take 1 ∷ finish 1 ∷ cross 1 ∷ take 1 ∷ clear 1 ∷ cross 1 ∷ close ∷ []

-- The thread stops on its way out of the VM, and at a return.
abbrev pub stops_at_a_return : List Event
stops_at_a_return =
    ask_depth (2 ∷ []) ∷ open_oldest ∷ to_vm 1 ∷ tell 2 ∷ from_vm 1 ∷ take 1 ∷ finish 1 ∷ clear 1 ∷ cross 1 ∷ close
    ∷ ask_depth (2 ∷ []) ∷ open_oldest ∷ enter 1 0 ∷ tell 2 ∷ leave 1 ∷ take 1 ∷ finish 1 ∷ clear 1 ∷ cross 1 ∷ close ∷ []

abbrev pub polled_everywhere : List Event
polled_everywhere = goes_on ++ stops_at_an_edge ++ stops_at_a_return

-- Two handshakes arm the thread's poll before it stops. It stops for the second, clears the first, which leaves the second armed, and
-- clears that.
abbrev pub cleared_under_a_greater : List Event
cleared_under_a_greater =
    goes_on ++ ask_depth (2 ∷ []) ∷ ask_depth (2 ∷ []) ∷ open_oldest ∷ open_oldest ∷ tell 2 ∷ tell 2 ∷ edge 1 ∷ take 1 ∷ finish 1 ∷ clear 1 ∷ cross 1
    ∷ take 1 ∷ finish 1 ∷ clear 1 ∷ cross 1 ∷ close ∷ close ∷ []

abbrev pub clears_under_a_greater : List PollDeed
clears_under_a_greater =
    at_one (Load 0) ∷ at_one (Load 0) ∷ at_one (Load 0) ∷ at_one (Load 0)
    ∷ at_one (Store 1 1) ∷ at_one (Store 1 2) ∷ at_one (Load 2) ∷ at_one (Exchange 1 2) ∷ at_one (Load 2) ∷ at_one (Exchange 2 2) ∷ at_one (Load 0) ∷ []

abbrev pub polls_everywhere : List PollDeed
polls_everywhere =
    at_one (Load 0) ∷ at_one (Load 0) ∷ at_one (Load 0) ∷ at_one (Load 0)
    ∷ at_one (Store 1 1) ∷ at_one (Load 1) ∷ at_one (Load 1) ∷ at_one (Exchange 1 1) ∷ at_one (Load 0)
    ∷ at_one (Store 1 2) ∷ at_one (Load 2) ∷ at_one (Exchange 2 2) ∷ at_one (Load 0)
    ∷ at_one (Store 1 3) ∷ at_one (Load 3) ∷ at_one (Exchange 3 3) ∷ at_one (Load 0) ∷ []
