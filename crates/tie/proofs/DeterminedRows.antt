-- What a step of a poll row leaves, as a function of the place before it and of the deed.
use Rattle.std.proofs.Common.{◌≡◌, ℕ, cond, sym, refl, ap, ◌∙◌}
use Rattle.std.specs.Prelude.{◌==◌}
use Rattle.std.proofs.lemmas.Bool.{eq-eqb, ne_eqb}
use mathlib.Core.Logic.{dite}
use native.Mathlib.Decide.{ℕ_discrete}
use Rattle.thread_state.specs.declared.poll_rule.Deed.{Deed}
use Rattle.thread_state.specs.declared.poll_rule.Deed.TheVariants.{Nothing, Load, Store, Exchange}
use Rattle.thread_state.specs.PollRule.{PlaceState, PollStep, RowStep, loads, stores, exchanges, word_after, cleared_after}
use Rattle.tie.specs.Determined.{HasSamePolls, IsSameRow, unmet_deed, RowStepsAreDetermined}

abbrev place_after : Deed → PlaceState → PlaceState
place_after Nothing s = s
place_after (Load found) s = s
place_after (Store q n) s = record { word = n; armed = n; cleared = s.cleared }
place_after (Exchange n found) s = record { word = word_after n found; armed = s.armed; cleared = cleared_after n found s.cleared }

abbrev poll_after : Deed → ℕ → ℕ
poll_after Nothing word = word
poll_after (Load found) word = word
poll_after (Store q n) word = n
poll_after (Exchange n found) word = word_after n found

poll_is : (made : Deed) (s : PlaceState) → (place_after made s).word ≡ poll_after made s.word
poll_is Nothing s = refl
poll_is (Load found) s = refl
poll_is (Store q n) s = refl
poll_is (Exchange n found) s = refl

leaves_place : (p : ℕ) (made : Deed) (s t : PlaceState) → PollStep p made s t → t ≡ place_after made s
leaves_place p made s t (loads x) = refl
leaves_place p made s t (stores x n more) = refl
leaves_place p made s t (exchanges x n some) = refl

abbrev met_at : ℕ → Deed → Deed
met_at word Nothing = Nothing
met_at word (Load found) = Load word
met_at word (Store q n) = Store q n
met_at word (Exchange n found) = Exchange n word

meets : (p : ℕ) (made : Deed) (s t : PlaceState) → PollStep p made s t → made ≡ met_at s.word (unmet_deed made)
meets p made s t (loads x) = refl
meets p made s t (stores x n more) = refl
meets p made s t (exchanges x n some) = refl

leaves_row : (places p : ℕ) (made : Deed) (old new : ℕ → PlaceState) → RowStep places p made old new → (q : ℕ) → new q ≡ cond (q == p) (place_after made (old q)) (old q)
leaves_row places p made old new s q = dite (ℕ_discrete q p)
    (λ e. let b = eq-eqb q p e in rw b (ap new e ∙ (leaves_place p made (old p) (new p) s.step ∙ ap (λ x. place_after made (old x)) (sym e))))
    (λ ne. let b = ne_eqb q p ne in rw b (s.others q ne))

leaves_polls : (places p : ℕ) (made : Deed) (old new : ℕ → PlaceState) → RowStep places p made old new → (q : ℕ) → (new q).word ≡ cond (q == p) (poll_after made (old q).word) (old q).word
leaves_polls places p made old new s q = dite (ℕ_discrete q p)
    (λ e. let b = eq-eqb q p e in rw b (ap (λ x. (new x).word) e ∙ (ap (λ (x : PlaceState). x.word) (leaves_place p made (old p) (new p) s.step) ∙ (poll_is made (old p) ∙ ap (λ x. poll_after made (old x).word) (sym e)))))
    (λ ne. let b = ne_eqb q p ne in rw b (ap (λ (x : PlaceState). x.word) (s.others q ne)))

pub row_steps_are_determined : RowStepsAreDetermined
row_steps_are_determined places p made met old new other next first second is same = (met_is, words, rows)
  where
    met_is : made ≡ met
    met_is = meets p made (old p) (new p) first.step ∙ (ap (λ n. met_at n (unmet_deed made)) (same p first.in_range)
        ∙ (ap (met_at (other p).word) is ∙ sym (meets p met (other p) (next p) second.step)))

    words : HasSamePolls places new next
    words q low = leaves_polls places p made old new first q ∙ (ap (λ n. cond (q == p) (poll_after made n) n) (same q low)
        ∙ (ap (λ d. cond (q == p) (poll_after d (other q).word) (other q).word) met_is ∙ sym (leaves_polls places p met other next second q)))

    rows : IsSameRow places old other → IsSameRow places new next
    rows all q low = leaves_row places p made old new first q ∙ (ap (λ s. cond (q == p) (place_after made s) s) (all q low)
        ∙ (ap (λ d. cond (q == p) (place_after d (other q)) (other q)) met_is ∙ sym (leaves_row places p met other next second q)))
