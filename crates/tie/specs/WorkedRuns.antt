-- The words of the worlds in worked runs, number by number. The tests find the same numbers in the words of running systems.
use Rattle.std.specs.Prelude.{◌≡◌, ℕ, List, [], ◌∷◌, ◌++◌, length, map, take}
use Rattle.method_table.specs.Numbers.{below}
use Rattle.frames.specs.BoardWords.{entry_of, count_of, place_of, the_moment}
use Rattle.thread_state.specs.PollRule.{PlaceState}
use Rattle.system.specs.Log.{Entry}
use Rattle.system.specs.World.{World, start_world}
use Rattle.system.specs.Runs.{world_after}
use Rattle.rows.specs.Rows.{look_before_a_round, reclaimed_after_use, publication_begun_before_the_round, slot_used_again, next_code_of_a_method, place_used_again, two_operations_in_turn, four_handshakes, held_in_native, safepoint_of_two_threads}
use Rattle.tie.specs.BoardOf.{word_by}
use Rattle.tie.specs.PollRow.{row_of}

-- The world with these numbers of places and slots, and 2 methods, after the first n lines of a run.
abbrev pub after_lines : ℕ → ℕ → ℕ → List Entry → World
after_lines places slots n run = world_after (start_world places slots 2) (map (λ line. line.event) (take n run))

-- 1. Poll words

-- A place with this poll word, and the numbers that were last armed and last cleared there.
abbrev pub at : ℕ → ℕ → ℕ → PlaceState
at word armed cleared = record { word = word; armed = armed; cleared = cleared }

-- After n lines of the run, these are the places of the row.
abbrev pub Polls : List Entry → ℕ → ℕ → List PlaceState → Type 0
Polls run places n row = map (row_of (after_lines places 4 n run)) (below places) ≡ row

-- A Tell of a name that has exited arms nothing, so the place of the next thread isn't armed.
abbrev pub PlaceUsedAgain : Type 0
PlaceUsedAgain = Polls place_used_again 1 12 (at 0 0 0 ∷ [])

-- Before and after the first Tell, before and after its Clear, and after the second Tell and its Clear.
abbrev pub TwoOperations : Type 0
TwoOperations =
    Polls two_operations_in_turn 1 9 (at 0 0 0 ∷ []) × Polls two_operations_in_turn 1 10 (at 1 1 0 ∷ [])
    × Polls two_operations_in_turn 1 18 (at 1 1 0 ∷ []) × Polls two_operations_in_turn 1 19 (at 0 1 1 ∷ [])
    × Polls two_operations_in_turn 1 23 (at 2 2 1 ∷ []) × Polls two_operations_in_turn 1 27 (at 0 2 2 ∷ [])

-- After each of two Tells. A Clear of the lesser number leaves the greater one armed, until a third Tell. A Clear of the second leaves the
-- third armed, and the Clear of the third leaves 0.
abbrev pub FourHandshakes : Type 0
FourHandshakes =
    Polls four_handshakes 1 17 (at 1 1 0 ∷ []) × Polls four_handshakes 1 18 (at 2 2 0 ∷ [])
    × Polls four_handshakes 1 22 (at 2 2 0 ∷ []) × Polls four_handshakes 1 27 (at 3 3 0 ∷ [])
    × Polls four_handshakes 1 29 (at 3 3 0 ∷ []) × Polls four_handshakes 1 31 (at 0 3 3 ∷ [])

-- A Tell arms the poll of a thread in native code, which is then held and cleared there by the coordinator.
abbrev pub HeldInNative : Type 0
HeldInNative =
    Polls held_in_native 1 12 (at 1 1 0 ∷ []) × Polls held_in_native 1 19 (at 1 1 0 ∷ []) × Polls held_in_native 1 20 (at 0 1 1 ∷ [])

-- A census arms the polls of both threads, and each is cleared separately. The vacant place doesn't change.
abbrev pub TwoThreadsAtASafepoint : Type 0
TwoThreadsAtASafepoint =
    Polls safepoint_of_two_threads 3 18 (at 0 0 0 ∷ at 0 0 0 ∷ at 0 0 0 ∷ []) × Polls safepoint_of_two_threads 3 19 (at 1 1 0 ∷ at 0 0 0 ∷ at 0 0 0 ∷ [])
    × Polls safepoint_of_two_threads 3 20 (at 1 1 0 ∷ at 1 1 0 ∷ at 0 0 0 ∷ []) × Polls safepoint_of_two_threads 3 37 (at 0 1 1 ∷ at 1 1 0 ∷ at 0 0 0 ∷ [])
    × Polls safepoint_of_two_threads 3 44 (at 0 1 1 ∷ at 0 1 1 ∷ at 0 0 0 ∷ [])

-- 2. Words of the board

-- The entries, the counts, the places and the moment.
abbrev pub board_words : World → List ℕ
board_words w =
    map (λ slot. word_by w (entry_of slot)) (below w.slots) ++ map (λ slot. word_by w (count_of slot)) (below w.slots)
    ++ map (λ place. word_by w (place_of place)) (below (length w.places)) ++ word_by w the_moment ∷ []

-- After n lines of the run, these are the words of the board.
abbrev pub Words : List Entry → ℕ → ℕ → ℕ → List ℕ → Type 0
Words run places slots n words = board_words (after_lines places slots n run) ≡ words

-- An entry word is four times the serial, plus 0 for in use, 1 for not entrant, 2 for zombie, 3 for vacant.
abbrev pub LookBeforeARound : Type 0
LookBeforeARound = Words look_before_a_round 1 4 13 (5 ∷ 3 ∷ 3 ∷ 3 ∷ 0 ∷ 0 ∷ 0 ∷ 0 ∷ 1 ∷ 1 ∷ [])

-- After the first publication; after the one that lets the look pass; after the one that follows the return of the frame; after the
-- weighing; and at the end.
abbrev pub ReclaimedAfterUse : Type 0
ReclaimedAfterUse =
    Words reclaimed_after_use 1 4 6 (4 ∷ 3 ∷ 3 ∷ 3 ∷ 0 ∷ 0 ∷ 0 ∷ 0 ∷ 1 ∷ 1 ∷ []) × Words reclaimed_after_use 1 4 18 (5 ∷ 3 ∷ 3 ∷ 3 ∷ 1 ∷ 0 ∷ 0 ∷ 0 ∷ 2 ∷ 2 ∷ [])
    × Words reclaimed_after_use 1 4 25 (5 ∷ 3 ∷ 3 ∷ 3 ∷ 0 ∷ 0 ∷ 0 ∷ 0 ∷ 2 ∷ 2 ∷ []) × Words reclaimed_after_use 1 4 26 (6 ∷ 3 ∷ 3 ∷ 3 ∷ 0 ∷ 0 ∷ 0 ∷ 0 ∷ 2 ∷ 2 ∷ [])
    × Words reclaimed_after_use 1 4 30 (7 ∷ 3 ∷ 3 ∷ 3 ∷ 0 ∷ 0 ∷ 0 ∷ 0 ∷ 2 ∷ 2 ∷ [])

-- A publication that began before the round stores the moment of its Begin.
abbrev pub PublicationBegunBeforeTheRound : Type 0
PublicationBegunBeforeTheRound =
    Words publication_begun_before_the_round 1 4 10 (5 ∷ 3 ∷ 3 ∷ 3 ∷ 0 ∷ 0 ∷ 0 ∷ 0 ∷ 1 ∷ 2 ∷ [])
    × Words publication_begun_before_the_round 1 4 15 (6 ∷ 3 ∷ 3 ∷ 3 ∷ 0 ∷ 0 ∷ 0 ∷ 0 ∷ 2 ∷ 2 ∷ [])

-- A freed slot keeps the serial until the next code is installed.
abbrev pub SlotUsedAgain : Type 0
SlotUsedAgain = Words slot_used_again 1 1 15 (7 ∷ 0 ∷ 2 ∷ 2 ∷ []) × Words slot_used_again 1 1 20 (8 ∷ 0 ∷ 2 ∷ 2 ∷ [])

-- Both codes of a method have frames: after the calls, during the publication, and after it.
abbrev pub NextCodeOfAMethod : Type 0
NextCodeOfAMethod =
    Words next_code_of_a_method 1 4 13 (5 ∷ 8 ∷ 3 ∷ 3 ∷ 0 ∷ 0 ∷ 0 ∷ 0 ∷ 1 ∷ 1 ∷ []) × Words next_code_of_a_method 1 4 17 (5 ∷ 8 ∷ 3 ∷ 3 ∷ 1 ∷ 0 ∷ 0 ∷ 0 ∷ 1 ∷ 2 ∷ [])
    × Words next_code_of_a_method 1 4 21 (5 ∷ 8 ∷ 3 ∷ 3 ∷ 1 ∷ 1 ∷ 0 ∷ 0 ∷ 2 ∷ 2 ∷ [])

-- Two threads count frames of one code.
abbrev pub TwoThreadsCount : Type 0
TwoThreadsCount =
    Words safepoint_of_two_threads 3 4 30 (4 ∷ 3 ∷ 3 ∷ 3 ∷ 1 ∷ 0 ∷ 0 ∷ 0 ∷ 1 ∷ 1 ∷ 0 ∷ 1 ∷ [])
    × Words safepoint_of_two_threads 3 4 44 (4 ∷ 3 ∷ 3 ∷ 3 ∷ 3 ∷ 0 ∷ 0 ∷ 0 ∷ 1 ∷ 1 ∷ 0 ∷ 1 ∷ [])
