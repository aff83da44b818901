-- The log: all accepted events with their answers, the newest first, with counts and searches.
use Rattle.std.specs.Prelude.{ℕ, ◌+◌, Bool, true, false, ◌&&◌, ◌==◌, List, [], ◌∷◌, count_by}
use Rattle.std.specs.List.{list_any}
use Rattle.system.specs.declared.events.Act.TheVariants as act
use Rattle.system.specs.declared.events.Event.{Event}
use Rattle.system.specs.declared.events.Event.TheVariants as event
use Rattle.system.specs.declared.answers.Answer.{Answer}
use Rattle.system.specs.declared.answers.Answer.TheVariants as answer

-- An accepted event with its answer.
pub record Entry : Type 0 where
  pub event : Event
  pub answer : Answer

-- Tests for a Start, an Ask, a Round, a Begin or End at the place, an Invalidate of the serial, and a Look at both.
abbrev pub is_start : Event → Bool
is_start event.Start = true
is_start event = false

abbrev pub is_ask : Event → Bool
is_ask (event.Ask request) = true
is_ask event = false

abbrev pub is_round : Event → Bool
is_round event.Round = true
is_round event = false

abbrev pub is_begin : ℕ → Event → Bool
is_begin place (event.At p act.Begin) = p == place
is_begin place event = false

abbrev pub is_end : ℕ → Event → Bool
is_end place (event.At p act.End) = p == place
is_end place event = false

abbrev pub is_invalidate : ℕ → Event → Bool
is_invalidate serial (event.Invalidate s) = s == serial
is_invalidate serial event = false

abbrev pub is_look : ℕ → ℕ → Event → Bool
is_look serial place (event.Look s p) = (s == serial) && (p == place)
is_look serial place event = false

abbrev pub says_clear : Answer → Bool
says_clear answer.Clear = true
says_clear answer = false

-- The answer gives a new thread this name.
abbrev pub names_thread : ℕ → Answer → Bool
names_thread name (answer.Thread n place) = n == name
names_thread name answer = false

-- How many names were given out. Names, operations and moments rise by one.
abbrev pub names_given : List Entry → ℕ
names_given log = count_by (λ entry. is_start entry.event) log

-- How many operations were numbered.
abbrev pub operations_given : List Entry → ℕ
operations_given log = count_by (λ entry. is_ask entry.event) log

-- The moment is 1 plus the number of rounds.
abbrev pub moment : List Entry → ℕ
moment log = count_by (λ entry. is_round entry.event) log + 1

-- The place has a Clear look for the code.
abbrev pub is_looked : List Entry → ℕ → ℕ → Bool
is_looked log serial place = list_any (λ entry. is_look serial place entry.event && says_clear entry.answer) log

-- The log has the Start of the thread.
abbrev pub has_started : List Entry → ℕ → Bool
has_started log name = list_any (λ entry. is_start entry.event && names_thread name entry.answer) log

-- Entries from the newest on pass these tests in order. A test gets an entry and the entries before it.
abbrev pub in_order : List (Event → List Entry → Bool) → List Entry → Bool
in_order [] log = true
in_order (test ∷ tests) [] = false
in_order (test ∷ tests) (entry ∷ before) =
    elim (test entry.event before) [ true ↦ in_order tests before | false ↦ in_order (test ∷ tests) before ]

-- The log has in this order: an Invalidate of the code, a Round, a Begin at the place after the thread's Start, and an
-- End at the place.
abbrev pub is_published_since : List Entry → ℕ → ℕ → ℕ → Bool
is_published_since log serial place name =
    in_order ((λ event before. is_end place event)
    ∷ (λ event before. is_begin place event && has_started before name)
    ∷ (λ event before. is_round event)
    ∷ (λ event before. is_invalidate serial event) ∷ []) log
