-- The board of a world: the words and views of a running board that corresponds to this world of the core.
use Rattle.std.specs.Prelude.{◌≡◌, ℕ, Bool, false, ◌&&◌, ◌==◌, List, Option, Some, None}
use Rattle.std.specs.List.{list_any}
use Rattle.frames.specs.declared.CodeId.{CodeId}
use Rattle.method_table.specs.declared.Code.{Code}
use Rattle.method_table.specs.declared.CodeState.TheVariants as state
use Rattle.system.specs.declared.events.Act.TheVariants as act
use Rattle.system.specs.declared.events.Event.{Event}
use Rattle.system.specs.declared.events.Event.TheVariants as event
use Rattle.system.specs.declared.answers.Answer.{Answer}
use Rattle.system.specs.declared.answers.Answer.TheVariants as answer
use Rattle.frames.specs.BoardWords.{Word, entry_of, count_of, place_of, the_moment, pack}
use Rattle.frames.specs.BoardRule.{SlotState, SeatState, BoardState, code, first_slot, IsBoardKept}
use Rattle.frames.specs.BoardStep.{is_past}
use Rattle.method_table.specs.Codes.{code_of}
use Rattle.method_table.specs.Entries.{entry_state, newest_in}
use Rattle.system.specs.Threads.{Thread}
use Rattle.system.specs.Log.{Entry, moment, is_looked}
use Rattle.system.specs.Moments.{left_at, published_at, publishing_at, is_fresh}
use Rattle.system.specs.World.{World, start_world, part_at, walk, thread_at, covered}
use Rattle.system.specs.Laws.{is_retired}
use Rattle.system.specs.Runs.{world_after}

-- What the keeper knows of a slot with this newest code: the serial and the state; the moment of the invalidation; the places where a look
-- found the code clear; and whether the code was weighed clear, as zombies and freed codes were. A Free changes only the state. A slot
-- that never had a code is in its initial state.
abbrev pub slot_by : List Entry → Option Code → SlotState
slot_by log None = first_slot
slot_by log (Some code) = record {
  serial = code.serial;
  state = entry_state code.state;
  left = left_at code.serial log;
  looked = λ place. is_looked log code.serial place;
  clear = is_retired code.state;
}

abbrev pub slot_at : World → ℕ → SlotState
slot_at w slot = slot_by w.log (newest_in w.codes slot)

-- The code was installed: its serial was given out, with this slot.
abbrev pub stands_in : Option Code → ℕ → Bool
stands_in None slot = false
stands_in (Some code) slot = code.slot == slot

abbrev pub is_given : List Code → CodeId → Bool
is_given codes code = stands_in (code_of codes code.serial) code.slot

-- An Enter of the code at the place was answered WrongMethod.
abbrev pub misses_code : ℕ → ℕ → Event → Answer → Bool
misses_code place serial (event.At p (act.Enter method (Some s))) answer.WrongMethod = (p == place) && (s == serial)
misses_code place serial event answer = false

abbrev pub is_missed : ℕ → ℕ → List Entry → Bool
is_missed place serial log = list_any (λ logged. misses_code place serial logged.event logged.answer) log

-- What the seat of a place knows, with this thread or none: for each code the count that the thread last published; the codes that the
-- thread entered since its last ended publication; the moment of its open publication and that of its last ended one, 0 for none; and the
-- codes whose Enter was ever answered WrongMethod there.
abbrev pub seat_by : List Code → List Entry → ℕ → Option Thread → SeatState
seat_by codes log place t = record {
  counted = λ code. part_at code t;
  fresh = λ code. is_given codes code && is_fresh place code.serial log;
  moment = publishing_at log place t;
  stored = published_at log place t;
  gone = λ code. is_given codes code && is_missed place code.serial log;
}

abbrev pub seat_at : World → ℕ → SeatState
seat_at w place = seat_by w.codes w.log place (thread_at w place)

-- The words: an entry has the serial and the state of its slot's code; a count is the index of that code; a place has the moment of its
-- last ended publication; the moment is 1 plus the rounds in the log.
abbrev pub word_by : World → Word → ℕ
word_by w (entry_of slot) = pack (slot_at w slot).serial (slot_at w slot).state
word_by w (count_of slot) = walk w (code slot (slot_at w slot).serial)
word_by w (place_of place) = published_at w.log place (thread_at w place)
word_by w the_moment = moment w.log

-- The board of a world.
abbrev pub board_of : World → BoardState
board_of w = record { word = word_by w; now = moment w.log; slot = slot_at w; seat = seat_at w }

-- After any events, the board of the world satisfies the rule of a code board with these numbers of slots and places.
abbrev pub BoardsKeepTheRule : Type 0
BoardsKeepTheRule = (places slots methods : ℕ) (events : List Event) → IsBoardKept slots places (board_of (world_after (start_world places slots methods) events))

-- For a code that is not entrant, a place is covered exactly where its word passes a look: the word is 0, or above the moment at which the
-- keeper invalidated the code of that slot.
abbrev pub IsCoveredByWords : World → Type 0
IsCoveredByWords w = (serial place : ℕ) (code : Code) → code_of w.codes serial ≡ Some code → code.state ≡ state.NotEntrant
    → covered w place serial ≡ is_past ((board_of w).slot code.slot).left ((board_of w).word (place_of place))

-- This holds after any events.
abbrev pub CoveredComparesWords : Type 0
CoveredComparesWords = (places slots methods : ℕ) (events : List Event) → IsCoveredByWords (world_after (start_world places slots methods) events)
