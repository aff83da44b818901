-- A poll row that makes the steps of events follows the world's.
use Rattle.std.proofs.Common.{◌≡◌, ℕ, List, [], ◌∷◌, ◌++◌, Option, Some, None, sym, refl, ap, subst}
use Rattle.std.specs.Prelude.{slice_get, replicate}
use Rattle.thread_state.specs.PollRule.{PlaceState, RowStep}
use Rattle.system.specs.Threads.{Thread}
use Rattle.system.specs.Operations.{no_requests}
use Rattle.system.specs.World.{World, start_world, found}
use Rattle.system.specs.Runs.{after, answer_to, world_after}
use Rattle.tie.specs.PollRow.{PollDeed, row_of, word_of, polls_of, IsPolled}
use Rattle.tie.specs.Determined.{HasSamePolls, IsSameRow, unmet_deed}
use Rattle.tie.specs.Followed.{listed, polls_of_run, RowSteps, RunsAreTheirPolls, unmet_poll, unmet_polls, RowsFollowTheEvents, PollWordsFollowTheEvents, NewRowsAreNewWorlds}
use Rattle.tie.proofs.DeterminedRows.{row_steps_are_determined}
use Rattle.tie.proofs.PollLaws.{one_more, events_are_their_polls}

-- 1. Runs

goes_on : (places : ℕ) (a b c : ℕ → PlaceState) (first : Option PollDeed) (second : List PollDeed) → IsPolled places first a b → RowSteps places b second c → RowSteps places a (listed first ++ second) c
goes_on places a b c None second h g = subst (λ x. RowSteps places x second c) (λ i p. h p i) g
goes_on places a b c (Some step) second h g = (b, h, g)

pub runs_are_their_polls : RunsAreTheirPolls
runs_are_their_polls places slots methods before [] = refl
runs_are_their_polls places slots methods before (e ∷ events) =
    let start : World = start_world places slots methods in
    let w : World = world_after start before in
    let next : world_after start (before ++ e ∷ []) ≡ after w e = one_more start before e in
    goes_on places (row_of w) (row_of (after w e)) (row_of (world_after (after w e) events)) (polls_of w e (answer_to w e)) (polls_of_run (after w e) events)
    (events_are_their_polls places slots methods before e)
    (subst (λ v. RowSteps places (row_of v) (polls_of_run v events) (row_of (world_after v events))) next (runs_are_their_polls places slots methods (before ++ e ∷ []) events))

-- 2. What follows

-- One step from the same row.
one_follows : (places : ℕ) (x m : PollDeed) (old new other next : ℕ → PlaceState) → RowStep places m.place m.deed other next → IsSameRow places old other
    → RowStep places x.place x.deed old new → x.place ≡ m.place → unmet_deed x.deed ≡ unmet_deed m.deed → (x ≡ m) × IsSameRow places new next
one_follows places x m old new other next goes same step here kinds = (λ i. record { place = here i; deed = known.0 i }, known.1)
  where
    known : (x.deed ≡ m.deed) × IsSameRow places new next
    known =
        let d = row_steps_are_determined places m.place x.deed m.deed old new other next (subst (λ p. RowStep places p x.deed old new) here step) goes kinds (λ p low. ap (λ (s : PlaceState). s.word) (same p low)) in
        (d.0, d.2 same)

-- All the steps.
follows : (places : ℕ) (steps made : List PollDeed) (old new other last : ℕ → PlaceState) → RowSteps places other made last
    → IsSameRow places old other → RowSteps places old steps new → unmet_polls steps ≡ unmet_polls made → (steps ≡ made) × IsSameRow places new last
follows places [] [] old new other last goes same steps is = (refl, subst (λ b. IsSameRow places b last) (sym steps) (subst (λ b. IsSameRow places old b) (sym goes) same))
follows places [] (m ∷ made) old new other last goes same steps is = cc
follows places (x ∷ xs) [] old new other last goes same steps is = cc
follows places (x ∷ xs) (m ∷ made) old new other last goes same steps is =
    let first : unmet_poll x ≡ unmet_poll m = cc in
    let here : x.place ≡ m.place = ap (λ (a : PollDeed). a.place) first in
    let kinds : unmet_deed x.deed ≡ unmet_deed m.deed = ap (λ (a : PollDeed). a.deed) first in
    let others : unmet_polls xs ≡ unmet_polls made = cc in
    let one = one_follows places x m old steps.0 other goes.0 goes.1 same steps.1 here kinds in
    let rest = follows places xs made steps.0 new goes.0 last goes.2 one.1 steps.2 others in
    (λ i. one.0 i ∷ rest.0 i, rest.1)

pub rows_follow_the_events : RowsFollowTheEvents
rows_follow_the_events places slots methods before events steps old new same made is =
    let w : World = world_after (start_world places slots methods) before in
    follows places steps (polls_of_run w events) old new (row_of w) (row_of (world_after w events)) (runs_are_their_polls places slots methods before events) same made is

-- The words alone.
words_follow : (places : ℕ) (made : List PollDeed) (old new other last : ℕ → PlaceState) → RowSteps places other made last → HasSamePolls places old other → RowSteps places old made new → HasSamePolls places new last
words_follow places [] old new other last goes same steps = subst (λ b. HasSamePolls places b last) (sym steps) (subst (λ b. HasSamePolls places old b) (sym goes) same)
words_follow places (m ∷ made) old new other last goes same steps =
    let one = row_steps_are_determined places m.place m.deed m.deed old steps.0 other goes.0 steps.1 goes.1 refl same in
    words_follow places made steps.0 new goes.0 last goes.2 one.1 steps.2

pub poll_words_follow_the_events : PollWordsFollowTheEvents
poll_words_follow_the_events places slots methods before events old new same made =
    let w : World = world_after (start_world places slots methods) before in
    words_follow places (polls_of_run w events) old new (row_of w) (row_of (world_after w events)) (runs_are_their_polls places slots methods before events) same made

-- 3. A new row

no_word : (n p : ℕ) → word_of no_requests (found (slice_get (replicate {A = Option Thread} n None) p)) ≡ 0
no_word n p = by (found (slice_get (replicate {A = Option Thread} n None) p))
  where
    by : (o : Option Thread) → word_of no_requests o ≡ 0
    by None = refl
    by (Some t) = refl

pub new_rows_are_new_worlds : NewRowsAreNewWorlds
new_rows_are_new_worlds places slots methods p low = λ i. record { word = sym (no_word places p) i; armed = 0; cleared = 0 }
