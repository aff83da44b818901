-- The final state of a running system that makes the steps of a list of events.
use Rattle.std.specs.Prelude.{◌≡◌, ℕ, List, [], ◌∷◌, ◌++◌, map, Option, Some, None}
use Rattle.system.specs.declared.events.Event.{Event}
use Rattle.frames.specs.BoardRule.{BoardState, first_board}
use Rattle.frames.specs.BoardStep.{BoardStep}
use Rattle.thread_state.specs.PollRule.{PlaceState, RowStep}
use Rattle.system.specs.World.{World, start_world}
use Rattle.system.specs.Runs.{after, answer_to, world_after}
use Rattle.tie.specs.BoardOf.{board_of}
use Rattle.tie.specs.Steps.{Made, steps_of, GoesBy}
use Rattle.tie.specs.PollRow.{PollDeed, row_of, polls_of}
use Rattle.tie.specs.Determined.{HasSameWords, IsSameBoard, unmet, HasSamePolls, IsSameRow, unmet_deed}

-- 1. Boards

-- The steps of the events, in order.
abbrev pub steps_of_run : World → List Event → List Made
steps_of_run w [] = []
steps_of_run w (event ∷ events) = steps_of w event (answer_to w event) ++ steps_of_run (after w event) events

-- The steps of the events take the board of the world before them to that of the world after them, and the board satisfies the rule after
-- each step.
abbrev pub RunsAreTheirSteps : Type 0
RunsAreTheirSteps = (places slots methods : ℕ) (before events : List Event)
    → GoesBy slots places (board_of (world_after (start_world places slots methods) before))
    (steps_of_run (world_after (start_world places slots methods) before) events)
    (board_of (world_after (world_after (start_world places slots methods) before) events))

-- Exactly these steps take a board from old to new, one after the other, each allowed where it is made.
abbrev pub BoardSteps : ℕ → ℕ → BoardState → List Made → BoardState → Type 0
BoardSteps slots places old [] new = new ≡ old
BoardSteps slots places old (made ∷ rest) new =
    (next : BoardState) × BoardStep slots places old next made.actor made.step × BoardSteps slots places next rest new

-- The seat and the kind of each step, without the values that it met.
abbrev pub unmet_made : Made → Made
unmet_made made = record { actor = made.actor; step = unmet made.step }

abbrev pub unmet_steps : List Made → List Made
unmet_steps steps = map unmet_made steps

-- Take a board with the words and views of the world after some events. If it makes the steps of the next events, each step meets the
-- value that the world's board holds there, and the board ends with the words and views of the world after those events.
abbrev pub BoardsFollowTheEvents : Type 0
BoardsFollowTheEvents = (places slots methods : ℕ) (before events : List Event) (steps : List Made) (old new : BoardState)
    → IsSameBoard slots places old (board_of (world_after (start_world places slots methods) before))
    → BoardSteps slots places old steps new
    → unmet_steps steps ≡ unmet_steps (steps_of_run (world_after (start_world places slots methods) before) events)
    → (steps ≡ steps_of_run (world_after (start_world places slots methods) before) events)
    × IsSameBoard slots places new (board_of (world_after (world_after (start_world places slots methods) before) events))

-- The same for the words alone, whatever the seats know: take a board with the words of the world after some events. If it makes the steps
-- of the next events and meets the values that these met, it ends with the words of the world after those events.
abbrev pub WordsFollowTheEvents : Type 0
WordsFollowTheEvents = (places slots methods : ℕ) (before events : List Event) (old new : BoardState)
    → HasSameWords slots places old (board_of (world_after (start_world places slots methods) before))
    → BoardSteps slots places old (steps_of_run (world_after (start_world places slots methods) before) events) new
    → HasSameWords slots places new (board_of (world_after (world_after (start_world places slots methods) before) events))

-- A new board has the words and the views of a new world.
abbrev pub NewBoardsAreNewWorlds : Type 0
NewBoardsAreNewWorlds = (places slots methods : ℕ) → IsSameBoard slots places first_board (board_of (start_world places slots methods))

-- 2. Poll rows

abbrev pub listed : Option PollDeed → List PollDeed
listed None = []
listed (Some step) = step ∷ []

-- The steps that the events make on the poll row, in order.
abbrev pub polls_of_run : World → List Event → List PollDeed
polls_of_run w [] = []
polls_of_run w (event ∷ events) = listed (polls_of w event (answer_to w event)) ++ polls_of_run (after w event) events

-- Exactly these steps take a row from old to new, one after the other, each allowed where it is made.
abbrev pub RowSteps : ℕ → (ℕ → PlaceState) → List PollDeed → (ℕ → PlaceState) → Type 0
RowSteps places old [] new = new ≡ old
RowSteps places old (step ∷ rest) new = (next : ℕ → PlaceState) × RowStep places step.place step.deed old next × RowSteps places next rest new

-- The steps of the events take the row of the world before them to that of the world after them.
abbrev pub RunsAreTheirPolls : Type 0
RunsAreTheirPolls = (places slots methods : ℕ) (before events : List Event)
    → RowSteps places (row_of (world_after (start_world places slots methods) before))
    (polls_of_run (world_after (start_world places slots methods) before) events)
    (row_of (world_after (world_after (start_world places slots methods) before) events))

abbrev pub unmet_poll : PollDeed → PollDeed
unmet_poll step = record { place = step.place; deed = unmet_deed step.deed }

abbrev pub unmet_polls : List PollDeed → List PollDeed
unmet_polls steps = map unmet_poll steps

-- Take a row equal to that of the world after some events. If it makes the steps of the next events, each step meets the value that the
-- world's row holds there, and the row ends as that of the world after those events.
abbrev pub RowsFollowTheEvents : Type 0
RowsFollowTheEvents = (places slots methods : ℕ) (before events : List Event) (steps : List PollDeed) (old new : ℕ → PlaceState)
    → IsSameRow places old (row_of (world_after (start_world places slots methods) before))
    → RowSteps places old steps new
    → unmet_polls steps ≡ unmet_polls (polls_of_run (world_after (start_world places slots methods) before) events)
    → (steps ≡ polls_of_run (world_after (start_world places slots methods) before) events)
    × IsSameRow places new (row_of (world_after (world_after (start_world places slots methods) before) events))

-- The same for the words alone, whatever was armed and cleared.
abbrev pub PollWordsFollowTheEvents : Type 0
PollWordsFollowTheEvents = (places slots methods : ℕ) (before events : List Event) (old new : ℕ → PlaceState)
    → HasSamePolls places old (row_of (world_after (start_world places slots methods) before))
    → RowSteps places old (polls_of_run (world_after (start_world places slots methods) before) events) new
    → HasSamePolls places new (row_of (world_after (world_after (start_world places slots methods) before) events))

-- A new row, with vacant places where nothing was armed, is the row of a new world.
abbrev pub NewRowsAreNewWorlds : Type 0
NewRowsAreNewWorlds = (places slots methods : ℕ) → IsSameRow places (λ p. record { word = 0; armed = 0; cleared = 0 }) (row_of (start_world places slots methods))
