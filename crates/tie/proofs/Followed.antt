-- A board that makes the steps of events follows the world's.
use Rattle.std.proofs.Common.{◌≡◌, ℕ, zero, suc, List, [], ◌∷◌, ◌++◌, Option, None, sym, refl, ap, subst, arith}
use Rattle.std.specs.Prelude.{slice_get, replicate, sum_by}
use Rattle.std.proofs.lemmas.List.Sums.{sum_by-cons}
use Rattle.frames.specs.declared.CodeId.{CodeId}
use Rattle.frames.specs.BoardWords.{entry_of, count_of, place_of, the_moment}
use Rattle.frames.specs.BoardRule.{SeatState, BoardState, code, IsBoardKept, first_board}
use Rattle.frames.specs.BoardStep.{BoardStep}
use Rattle.system.specs.Threads.{Thread}
use Rattle.system.specs.World.{World, start_world, part_at, found}
use Rattle.system.specs.Runs.{after, answer_to, world_after}
use Rattle.tie.specs.BoardOf.{seat_by, board_of}
use Rattle.tie.specs.Steps.{Made, steps_of, GoesBy}
use Rattle.tie.specs.Determined.{HasSameWords, IsSameBoard, unmet}
use Rattle.tie.specs.Followed.{steps_of_run, RunsAreTheirSteps, BoardSteps, unmet_made, unmet_steps, BoardsFollowTheEvents, WordsFollowTheEvents, NewBoardsAreNewWorlds}
use Rattle.tie.proofs.Determined.{board_steps_are_determined, board_steps_meet_the_words}
use Rattle.tie.proofs.Events.{events_are_their_steps}
use Rattle.tie.proofs.Board.{boards_keep_the_rule}
use Rattle.tie.proofs.PollLaws.{one_more}

-- 1. Runs

goes_on : (slots places : ℕ) (a b c : BoardState) (first second : List Made) → GoesBy slots places a first b → GoesBy slots places b second c → GoesBy slots places a (first ++ second) c
goes_on slots places a b c [] second h g = subst (λ x. GoesBy slots places x second c) h g
goes_on slots places a b c (made ∷ first) second h g = (h.0, h.1, h.2, goes_on slots places h.0 b c first second h.3 g)

pub runs_are_their_steps : RunsAreTheirSteps
runs_are_their_steps places slots methods before [] = refl
runs_are_their_steps places slots methods before (e ∷ events) =
    let start : World = start_world places slots methods in
    let w : World = world_after start before in
    let next : world_after start (before ++ e ∷ []) ≡ after w e = one_more start before e in
    goes_on slots places (board_of w) (board_of (after w e)) (board_of (world_after (after w e) events)) (steps_of w e (answer_to w e)) (steps_of_run (after w e) events)
    (events_are_their_steps places slots methods before e)
    (subst (λ v. GoesBy slots places (board_of v) (steps_of_run v events) (board_of (world_after v events))) next (runs_are_their_steps places slots methods (before ++ e ∷ []) events))

-- 2. What follows

-- One step from the same words and views.
one_follows : (slots places : ℕ) (x m : Made) (old new other next : BoardState) → IsBoardKept slots places other → BoardStep slots places other next m.actor m.step
    → IsSameBoard slots places old other → BoardStep slots places old new x.actor x.step → x.actor ≡ m.actor → unmet x.step ≡ unmet m.step → (x ≡ m) × IsSameBoard slots places new next
one_follows slots places x m old new other next kept goes same step actors kinds = (λ i. record { actor = actors i; step = sym met i }, same_next)
  where
    mine : BoardStep slots places old new m.actor x.step
    mine = subst (λ a. BoardStep slots places old new a x.step) actors step

    met : m.step ≡ x.step
    met = board_steps_meet_the_words slots places other next old new m.actor m.step x.step kept (λ y h. sym (same.words y h)) goes mine (sym kinds)

    here : BoardStep slots places old new m.actor m.step
    here = subst (λ s. BoardStep slots places old new m.actor s) (sym met) mine

    same_next : IsSameBoard slots places new next
    same_next = let d = board_steps_are_determined slots places old new other next m.actor m.step here goes in record { words = d.0 same.words; views = d.1 same.views }

-- All the steps.
follows : (slots places : ℕ) (steps made : List Made) (old new other last : BoardState) → IsBoardKept slots places other → GoesBy slots places other made last
    → IsSameBoard slots places old other → BoardSteps slots places old steps new → unmet_steps steps ≡ unmet_steps made → (steps ≡ made) × IsSameBoard slots places new last
follows slots places [] [] old new other last kept goes same steps is = (refl, subst (λ b. IsSameBoard slots places b last) (sym steps) (subst (λ b. IsSameBoard slots places old b) (sym goes) same))
follows slots places [] (m ∷ made) old new other last kept goes same steps is = cc
follows slots places (x ∷ xs) [] old new other last kept goes same steps is = cc
follows slots places (x ∷ xs) (m ∷ made) old new other last kept goes same steps is =
    let first : unmet_made x ≡ unmet_made m = cc in
    let actors : x.actor ≡ m.actor = ap (λ (a : Made). a.actor) first in
    let kinds : unmet x.step ≡ unmet m.step = ap (λ (a : Made). a.step) first in
    let others : unmet_steps xs ≡ unmet_steps made = cc in
    let one = one_follows slots places x m old steps.0 other goes.0 kept goes.1 same steps.1 actors kinds in
    let rest = follows slots places xs made steps.0 new goes.0 last goes.2 goes.3 one.1 steps.2 others in
    (λ i. one.0 i ∷ rest.0 i, rest.1)

pub boards_follow_the_events : BoardsFollowTheEvents
boards_follow_the_events places slots methods before events steps old new same made is =
    let w : World = world_after (start_world places slots methods) before in
    follows slots places steps (steps_of_run w events) old new (board_of w) (board_of (world_after w events)) (boards_keep_the_rule places slots methods before)
    (runs_are_their_steps places slots methods before events) same made is

-- The words alone.
words_follow : (slots places : ℕ) (made : List Made) (old new other last : BoardState) → GoesBy slots places other made last → HasSameWords slots places old other → BoardSteps slots places old made new → HasSameWords slots places new last
words_follow slots places [] old new other last goes same steps = subst (λ b. HasSameWords slots places b last) (sym steps) (subst (λ b. HasSameWords slots places old b) (sym goes) same)
words_follow slots places (m ∷ made) old new other last goes same steps =
    let one = board_steps_are_determined slots places old steps.0 other goes.0 m.actor m.step steps.1 goes.1 in
    words_follow slots places made steps.0 new goes.0 last goes.3 (one.0 same) steps.2

pub words_follow_the_events : WordsFollowTheEvents
words_follow_the_events places slots methods before events old new same made =
    let w : World = world_after (start_world places slots methods) before in
    words_follow slots places (steps_of_run w events) old new (board_of w) (board_of (world_after w events)) (runs_are_their_steps places slots methods before events) same made

-- 3. A new board

vacant : (n p : ℕ) → found (slice_get (replicate {A = Option Thread} n None) p) ≡ None
vacant zero p = refl
vacant (suc n) zero = refl
vacant (suc n) (suc p) = vacant n p

counts_none : (n : ℕ) (c : CodeId) → sum_by (part_at c) (replicate {A = Option Thread} n None) ≡ 0
counts_none zero c = refl
counts_none (suc n) c = let first = sum_by-cons (part_at c) None (replicate n None) in let rest = counts_none n c in omega arith

pub new_boards_are_new_worlds : NewBoardsAreNewWorlds
new_boards_are_new_worlds places slots methods = record {
  words = words;
  views = record { moments = refl; slots_are = λ k low. refl; seats_are = λ p low. sym (ap (seat_by [] [] p) (vacant places p)) };
}
  where
    words : HasSameWords slots places first_board (board_of (start_world places slots methods))
    words (entry_of k) h = refl
    words (count_of k) h = sym (counts_none places (code k 0))
    words (place_of p) h = sym (ap (λ (t : SeatState). t.stored) (ap (seat_by [] [] p) (vacant places p)))
    words the_moment h = refl
