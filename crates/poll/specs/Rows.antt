-- A row of poll words as a table: which word is which place's, which view is which seat's, and how words and views meet the poll rule. The
-- first seat is the armer's. The pollers are split off it in the order of their places.
use Rattle.std.specs.Prelude.{◌≡◌, ◌⊎◌, ℕ, suc, ◌+◌, ◌*◌, ◌<◌, ◌≤◌, ◌==◌, if◌then◌else◌, List, [], ◌∷◌, length, slice_index}
use mathlib.Core.Option.{Option, none, some}
use lib.ListN.{get_elem?}
use Rattle.atomic_table.specs.Table.{State, Me, Step}
use Rattle.atomic_table.specs.Seated.{TableId}
use Rattle.thread_state.specs.declared.poll_rule.Deed.{Deed}
use Rattle.thread_state.specs.declared.poll_rule.Deed.TheVariants.{Nothing, Load, Store, Exchange}
use Rattle.thread_state.specs.declared.poll_rule.Arming.{Arming}
use Rattle.thread_state.specs.declared.poll_rule.Watching.{Watching}
use Rattle.poll.specs.declared.views.Watch.{Watch}
use Rattle.poll.specs.declared.views.Watch.TheVariants.{Armer, Poller, Ended}
use Rattle.thread_state.specs.PollRule.{PlaceState, IsPollKept, RowStep, first_arming, first_watching, armed_with, polled, exchanged, word_after}

-- 1. What contracts see

-- The row's identity.
abbrev pub RowId : Type 0
RowId = TableId

-- An armer and a poller: the row's identity, what the seat knows, and its stamp, which rises at each of its steps.
pub record ArmerSeen : Type 0 where
  pub table : RowId
  pub seen : Arming
  pub stamp : ℕ

pub record PollerSeen : Type 0 where
  pub table : RowId
  pub seen : Watching
  pub stamp : ℕ

-- What a poller may find in its word after it last cleared this number: 0, or a greater number.
abbrev pub IsMet : ℕ → ℕ → Type 0
IsMet cleared found = (found ≡ 0) ⊎ (cleared < found)

-- A poller made one step. There is a row that met the rule and in which the poller's place had the cleared number of the poller's old view.
-- The last step of its new view led to a row that meets the rule and in which the place has the cleared number of the new view.
pub record PollerSteps (old new : Watching) : Type 0 where
  pub places : ℕ
  pub before : ℕ → PlaceState
  pub after : ℕ → PlaceState
  pub kept_before : IsPollKept places before
  pub step : RowStep places old.place new.last before after
  pub kept_after : IsPollKept places after
  pub cleared_before : (before old.place).cleared ≡ old.cleared
  pub cleared_after : (after old.place).cleared ≡ new.cleared

-- The armer made one step, on a row with as many places as its view has. Before and after, each place is armed with the number in the
-- armer's view.
pub record ArmerSteps (old new : Arming) : Type 0 where
  pub places : ℕ
  pub count : length old.armed ≡ places
  pub place : ℕ
  pub before : ℕ → PlaceState
  pub after : ℕ → PlaceState
  pub kept_before : IsPollKept places before
  pub step : RowStep places place new.last before after
  pub kept_after : IsPollKept places after
  pub armed_before : (p : ℕ) → (before p).armed ≡ slice_index old.armed p
  pub armed_after : (p : ℕ) → (after p).armed ≡ slice_index new.armed p

-- The state of a poller's place at the end of a row, whose places were left with these words.
abbrev pub place_left : List ℕ → ArmerSeen → PollerSeen → PlaceState
place_left words armer p = record { word = slice_index words p.seen.place; armed = slice_index armer.seen.armed p.seen.place; cleared = p.seen.cleared }

-- The first view of the poller of the place p, and of the armer of so many places.
abbrev pub first_poller : RowId → ℕ → PollerSeen
first_poller row p = record { table = row; seen = first_watching p; stamp = 0 }

abbrev pub armer_at : ℕ → ℕ → Arming
armer_at places split = record { armed = (first_arming places).armed; split = split; steps = 0; last = (first_arming places).last }

abbrev pub full_armer : RowId → ℕ → ArmerSeen
full_armer row places = record { table = row; seen = armer_at places places; stamp = 0 }

-- 2. Words and views

-- The index of a place's word, and the number of words of a row.
abbrev pub word_at : ℕ → ℕ
word_at p = 8 * p + 8

abbrev pub words_of : ℕ → ℕ
words_of places = 8 * places + 8

abbrev pub arming_of : Watch → Arming
arming_of (Armer a ended t) = a
arming_of (Poller w t) = first_arming 0
arming_of Ended = first_arming 0

abbrev pub ended_of : Watch → List (ℕ × ℕ)
ended_of (Armer a ended t) = ended
ended_of (Poller w t) = []
ended_of Ended = []

abbrev pub watching_of : ℕ → Watch → Watching
watching_of p (Armer a ended t) = first_watching p
watching_of p (Poller w t) = w
watching_of p Ended = first_watching p

abbrev pub stamp_of : Watch → ℕ
stamp_of (Armer a ended t) = t
stamp_of (Poller w t) = t
stamp_of Ended = 0

-- A seat as contracts see it: the row's identity, and the seat's view.
abbrev pub of_armer : RowId → Watch → ArmerSeen
of_armer row v = record { table = row; seen = arming_of v; stamp = stamp_of v }

abbrev pub of_poller : RowId → Watch → PollerSeen
of_poller row v = record { table = row; seen = watching_of 0 v; stamp = stamp_of v }

-- The view of the poller of the place p, or its first view if it isn't split off yet.
abbrev pub watching_or : ℕ → Option Watch → Watching
watching_or p none = first_watching p
watching_or p (some v) = watching_of p v

abbrev pub watching_at : List Watch → ℕ → Watching
watching_at views p = watching_or p (get_elem? views (suc p))

-- The armer has the seat 0, and the poller of the place p the seat p + 1.
abbrev pub IsSeatedAt : ℕ → Watch → Type 0
IsSeatedAt id (Armer a ended t) = id ≡ 0
IsSeatedAt id (Poller w t) = id ≡ suc w.place
IsSeatedAt id Ended = 0 < id

-- What the poller of the place p cleared last: as noted if that poller has ended, otherwise as its view says.
abbrev pub cleared_of : List (ℕ × ℕ) → ℕ → ℕ → ℕ
cleared_of [] p by_view = by_view
cleared_of (x ∷ xs) p by_view = if x.0 == p then x.1 else cleared_of xs p by_view

-- The poller of the place p isn't noted as ended.
abbrev pub IsLive : List (ℕ × ℕ) → ℕ → Type 0
IsLive ended p = (by_view : ℕ) → cleared_of ended p by_view ≡ by_view

-- The state of the place p, from its word and the views of the armer and of its poller.
abbrev pub place_of : List ℕ → Arming → List (ℕ × ℕ) → List Watch → ℕ → PlaceState
place_of words arming ended views p
    = record { word = slice_index words (word_at p); armed = slice_index arming.armed p; cleared = cleared_of ended p (watching_at views p).cleared }

-- The words are as the deed left them. The seat of the place p, or the armer, did it.
abbrev pub IsToldBy : List ℕ → ℕ → Deed → Type 0
IsToldBy words p Nothing = Unit {0}
IsToldBy words p (Load found) = slice_index words (word_at p) ≡ found
IsToldBy words p (Store q n) = slice_index words (word_at q) ≡ n
IsToldBy words p (Exchange n found) = slice_index words (word_at p) ≡ word_after n found

-- The words are as the seat's last step left them. For the armer of a row that is being closed this says nothing.
abbrev pub IsTold : List ℕ → Watch → Type 0
IsTold words (Armer a [] t) = IsToldBy words 0 a.last
IsTold words (Armer a (x ∷ xs) t) = Unit {0}
IsTold words (Poller w t) = IsToldBy words w.place w.last
IsTold words Ended = Unit {0}

-- No view has a greater stamp.
abbrev pub IsLatest : List Watch → ℕ → Type 0
IsLatest views stamp = (id : ℕ) (v : Watch) → get_elem? views id ≡ some v → stamp_of v ≤ stamp

-- 3. The rule of the table

pub record IsRow (places : ℕ) (s : State (Unit {0}) Watch) : Type 0 where
  -- the armer's view, and the pollers that have ended
  pub arming : Arming
  pub ended : List (ℕ × ℕ)
  pub stamp : ℕ
  pub armer : get_elem? s.views 0 ≡ some (Armer arming ended stamp)
  pub seated : (id : ℕ) (v : Watch) → get_elem? s.views id ≡ some v → IsSeatedAt id v
  -- the seats are the armer and the pollers that are split off, at most one for each place
  pub split : (length s.views ≡ suc arming.split) × (arming.split ≤ places)
  pub armed_at : length arming.armed ≡ places
  pub words_at : length s.words ≡ words_of places
  -- a poller that has its seat hasn't ended
  pub live : (id : ℕ) (w : Watching) (t : ℕ) → get_elem? s.views id ≡ some (Poller w t) → IsLive ended w.place
  -- the words and views meet the poll rule
  pub kept : IsPollKept places (place_of s.words arming ended s.views)
  -- the last step of all seats found in its word, or left there, the word's present value
  pub told : (id : ℕ) (v : Watch) → get_elem? s.views id ≡ some v → IsLatest s.views (stamp_of v) → IsTold s.words v

-- The armer's view after a poller is split off, and that poller's view.
abbrev pub fewer : Arming → Arming
fewer a = record { armed = a.armed; split = a.split + 1; steps = a.steps; last = a.last }

abbrev pub left_of : Watch → Watch
left_of (Armer a ended t) = Armer (fewer a) ended t
left_of (Poller w t) = Poller w t
left_of Ended = Ended

abbrev pub right_of : Watch → Watch
right_of (Armer a ended t) = Poller (first_watching a.split) 0
right_of (Poller w t) = Poller w t
right_of Ended = Ended

-- The armer's view after a poller has ended.
abbrev pub both_of : Watch → Watch → Watch
both_of v u = Armer (arming_of v) (((watching_of 0 u).place, (watching_of 0 u).cleared) ∷ ended_of v) (stamp_of v + stamp_of u)

-- 4. The view of a seat after each kind of step

abbrev SeatState : Type 0
SeatState = Me (Unit {0}) Watch

abbrev pub Polls : Step (Unit {0}) → SeatState → ℕ → SeatState → Type 0
Polls st old found new = (new ≡ (Poller (polled (watching_of 0 old.0) found) (stamp_of new.0), old.1)) × (stamp_of old.0 < stamp_of new.0) × IsMet (watching_of 0 old.0).cleared found
    × PollerSteps (watching_of 0 old.0) (watching_of 0 new.0)

abbrev pub Clears : Step (Unit {0}) → SeatState → ℕ → SeatState → Type 0
Clears st old found new = (new ≡ (Poller (exchanged (watching_of 0 old.0) st.first found) (stamp_of new.0), old.1)) × (stamp_of old.0 < stamp_of new.0) × IsMet (watching_of 0 old.0).cleared found
    × PollerSteps (watching_of 0 old.0) (watching_of 0 new.0)

-- A step names a word by its index: the armed place is the one whose word has this index.
abbrev pub Arms : Step (Unit {0}) → SeatState → ℕ → SeatState → Type 0
Arms st old found new = (p : ℕ) × (st.word ≡ word_at p) × (new.0 ≡ Armer (armed_with (arming_of old.0) p st.first) [] (stamp_of new.0)) × (stamp_of old.0 < stamp_of new.0)
    × ArmerSteps (arming_of old.0) (arming_of new.0)

abbrev pub IsArmer : Watch → Type 0
IsArmer v = v ≡ Armer (arming_of v) [] (stamp_of v)

-- An armer whose row is being closed.
abbrev pub IsClosing : Watch → Type 0
IsClosing v = v ≡ Armer (arming_of v) (ended_of v) (stamp_of v)

abbrev pub IsPoller : Watch → Type 0
IsPoller v = v ≡ Poller (watching_of 0 v) (stamp_of v)
