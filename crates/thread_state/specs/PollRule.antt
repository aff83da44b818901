-- The rule of the poll words. Each place has one word. The armer stores rising numbers of operations in the word.
-- The place's poller loads the word. It clears a number by a compare-exchange with 0, so that a greater number, stored
-- meanwhile, stays.
use Rattle.std.specs.Prelude.{◌≡◌, ◌≢◌, ◌⊎◌, ℕ, ◌+◌, ◌<◌, ◌≤◌, ◌==◌, if◌then◌else◌, slice_set, replicate}
use Rattle.thread_state.specs.declared.poll_rule.Deed.{Deed}
use Rattle.thread_state.specs.declared.poll_rule.Deed.TheVariants.{Nothing, Load, Store, Exchange}
use Rattle.thread_state.specs.declared.poll_rule.Arming.{Arming}
use Rattle.thread_state.specs.declared.poll_rule.Watching.{Watching}

-- 1. The rule

-- The state of one place. A number that doesn't exist yet is 0.
pub record PlaceState : Type 0 where
  -- the word's value
  pub word : ℕ
  -- the number that the armer last stored
  pub armed : ℕ
  -- the number that the poller last cleared
  pub cleared : ℕ

-- The rule at one place.
pub record IsPlaceKept (place : PlaceState) : Type 0 where
  -- Only armed numbers are cleared, and numbers rise.
  pub cleared_by : place.cleared ≤ place.armed
  -- The word is 0 if the number last armed is cleared, otherwise the word is that number.
  pub word_is : place.word ≡ (if place.cleared == place.armed then 0 else place.armed)

-- The rule of a row holds at each of its places.
abbrev pub IsPollKept : ℕ → (ℕ → PlaceState) → Type 0
IsPollKept places at = (p : ℕ) → p < places → IsPlaceKept (at p)

-- 2. The steps

-- The number last cleared, and the word, after a compare-exchange of n that loaded the value found.
abbrev pub cleared_after : ℕ → ℕ → ℕ → ℕ
cleared_after n found cleared = if found == n then n else cleared

abbrev pub word_after : ℕ → ℕ → ℕ
word_after n found = if found == n then 0 else found

-- The three kinds of step at the place p. Each relates the step that the seat notes and the place before and after.
pub data PollStep (p : ℕ) : Deed → PlaceState → PlaceState → Type 0 where
  -- The poller loads the word. Nothing changes.
  loads : (s : PlaceState) → PollStep p (Load s.word) s s
  -- The armer stores a number greater than the last.
  stores : (s : PlaceState) (n : ℕ) → s.armed < n → PollStep p (Store p n) s record { word = n; armed = n; cleared = s.cleared }
  -- The poller exchanges a number other than 0 for 0. If the word is that number, the word becomes 0 and the number is
  -- cleared; otherwise nothing changes.
  exchanges : (s : PlaceState) (n : ℕ) → n ≢ 0
      → PollStep p (Exchange n s.word) s record { word = word_after n s.word; armed = s.armed; cleared = cleared_after n s.word s.cleared }

-- One step of a row changes one place.
pub record RowStep (places p : ℕ) (deed : Deed) (before after : ℕ → PlaceState) : Type 0 where
  pub in_range : p < places
  pub step : PollStep p deed (before p) (after p)
  pub others : (q : ℕ) → q ≢ p → after q ≡ before q

-- Each step preserves the rule.
abbrev pub StepsKeep : Type 0
StepsKeep = (places p : ℕ) (deed : Deed) (before after : ℕ → PlaceState) → RowStep places p deed before after → IsPollKept places before → IsPollKept places after

-- A loaded word that meets the rule is 0, and the number last armed is cleared; or the word is the number last armed,
-- which is greater than the number last cleared.
abbrev pub IsFound : PlaceState → Type 0
IsFound place = ((place.word ≡ 0) × (place.cleared ≡ place.armed)) ⊎ ((place.word ≡ place.armed) × (place.cleared < place.armed))

-- 3. The seats' views

-- The first views of the armer and of the poller of the place p.
abbrev pub first_arming : ℕ → Arming
first_arming places = record { armed = replicate places 0; split = 0; steps = 0; last = Nothing }

abbrev pub first_watching : ℕ → Watching
first_watching p = record { place = p; cleared = 0; steps = 0; last = Nothing }

-- The armer's view after a store of n at the place p.
abbrev pub armed_with : Arming → ℕ → ℕ → Arming
armed_with a p n = record { armed = slice_set a.armed p n; split = a.split; steps = a.steps + 1; last = Store p n }

-- The poller's view after a load of the value found.
abbrev pub polled : Watching → ℕ → Watching
polled w found = record { place = w.place; cleared = w.cleared; steps = w.steps + 1; last = Load found }

-- The poller's view after a compare-exchange of n that loaded the value found.
abbrev pub exchanged : Watching → ℕ → ℕ → Watching
exchanged w n found = record { place = w.place; cleared = cleared_after n found w.cleared; steps = w.steps + 1; last = Exchange n found }
