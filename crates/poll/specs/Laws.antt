-- What the rule of a row requires of each step, whatever a play says of it; what a word of 0 means; and how the words are spaced.
use Rattle.std.specs.Prelude.{◌≡◌, ◌≢◌, ℕ, suc, ◌+◌, ◌<◌, ◌≤◌, [], length, slice_index}
use mathlib.Core.Option.{some}
use lib.ListN.{get_elem?}
use Rattle.atomic_table.specs.Table.{State, Me, Allows}
use Rattle.thread_state.specs.declared.poll_rule.Deed.TheVariants.{Load, Exchange}
use Rattle.thread_state.specs.declared.poll_rule.Arming.{Arming}
use Rattle.thread_state.specs.declared.poll_rule.Watching.{Watching}
use Rattle.thread_state.specs.PollRule.{PlaceState, armed_with}
use Rattle.poll.specs.declared.views.Watch.{Watch}
use Rattle.poll.specs.declared.views.Watch.TheVariants.{Armer, Poller}
use Rattle.poll.specs.Rows.{IsRow, watching_of, stamp_of, word_at, words_of, place_of}

-- The poller has the view that u computes from the value found by the step, and its stamp rose.
abbrev pub PollerTold : ℕ → (ℕ → Watching) → ℕ → Me (Unit {0}) Watch → Type 0
PollerTold stamp u found new = (watching_of 0 new.0 ≡ u found) × (stamp < stamp_of new.0)

-- The rule lets the poller with the view w step at the word i, and then gives the poller the view u.
abbrev pub PollerMay : ℕ → ℕ → Watching → ℕ → (ℕ → ℕ) → (ℕ → Watching) → Type 0
PollerMay places stamp w i f u = Allows (IsRow places) 0 (suc w.place) (Poller w stamp, []) i f (PollerTold stamp u)

-- No step at a word other than the place's own gives the poller a view whose last step is a load of the place's word. This holds whatever
-- the step does to its word, and whatever value it returns.
abbrev pub PollsElsewhereRefused : Type 0
PollsElsewhereRefused = (places i stamp : ℕ) (w : Watching) (u : ℕ → Watching) (f g : ℕ → ℕ) → w.place < places → i < words_of places → i ≢ word_at w.place
    → ((x : ℕ) → ((u x).place ≡ w.place) × ((u x).last ≡ Load (g x))) → ¬ PollerMay places stamp w i f u

-- No such step gives the poller the view that it compared n and exchanged it.
abbrev pub ClearsElsewhereRefused : Type 0
ClearsElsewhereRefused = (places i stamp n : ℕ) (w : Watching) (u : ℕ → Watching) (f g : ℕ → ℕ) → w.place < places → i < words_of places → i ≢ word_at w.place
    → ((x : ℕ) → ((u x).place ≡ w.place) × ((u x).last ≡ Exchange n (g x))) → ¬ PollerMay places stamp w i f u

-- No step at another word than that of the place p gives the armer the view that it stored n there. This holds if there is a row that isn't
-- being closed and on which n is greater than the number with which the place was last armed.
abbrev pub ArmsElsewhereRefused : Type 0
ArmsElsewhereRefused = (places slots p i n stamp : ℕ) (a : Arming) (f : ℕ → ℕ) (s : State (Unit {0}) Watch) → IsRow places s → length s.homes ≡ slots → get_elem? s.views 0 ≡ some (Armer a [] stamp)
    → slice_index s.words i < 18446744073709551616 → p < places → slice_index a.armed p < n → i ≢ word_at p
    → ¬ Allows (IsRow places) slots 0 (Armer a [] stamp, []) i f (λ found new. new.0 ≡ Armer (armed_with a p n) [] (stamp_of new.0))

-- the word of the place is 0 exactly if the number with which the place was last armed is cleared
abbrev pub IsZeroWhereCleared : PlaceState → Type 0
IsZeroWhereCleared place = (place.word ≡ 0 → place.cleared ≡ place.armed) × (place.cleared ≡ place.armed → place.word ≡ 0)

-- Between any two steps, this holds for each place of a row.
abbrev pub WordsTellTheCleared : Type 0
WordsTellTheCleared = (places p : ℕ) (s : State (Unit {0}) Watch) (row : IsRow places s) → p < places → IsZeroWhereCleared (place_of s.words row.arming row.ended s.views p)

-- The words of two places are at least 8 words apart. So far too are the first and the last from the memory before and after the words.
abbrev pub WordsApart : Type 0
WordsApart = (places p q : ℕ) → p < places → (8 ≤ word_at p) × (word_at p + 8 ≤ words_of places) × (p < q → word_at p + 8 ≤ word_at q)
