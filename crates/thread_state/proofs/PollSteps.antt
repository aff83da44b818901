-- Each step preserves the rule of the poll words, and the rule gives the two cases of a loaded word.
use Rattle.std.proofs.Common.{◌≡◌, ◌≢◌, ℕ, refl, sym, ◌∙◌, inl, inr, subst, arith, eq-eqb, ne_eqb}
use mathlib.Core.Logic.{dite}
use native.Mathlib.Decide.{ℕ_discrete}
use Rattle.thread_state.specs.declared.poll_rule.Deed.{Deed}
use Rattle.thread_state.specs.PollRule.{PlaceState, IsPlaceKept, PollStep, loads, stores, exchanges, StepsKeep, IsFound, word_after, cleared_after}

pub found_is : (s : PlaceState) → IsPlaceKept s → IsFound s
found_is s k = dite (ℕ_discrete s.cleared s.armed)
    (λ e. inl (k.word_is ∙ rw (eq-eqb s.cleared s.armed e) refl, e))
    (λ ne. let low = k.cleared_by in inr (k.word_is ∙ rw (ne_eqb s.cleared s.armed ne) refl, omega arith))

exchange_keeps : (s : PlaceState) (n : ℕ) → n ≢ 0 → IsPlaceKept s
    → IsPlaceKept record { word = word_after n s.word; armed = s.armed; cleared = cleared_after n s.word s.cleared }
exchange_keeps s n some_n k = dite (ℕ_discrete s.word n)
    (λ hit. dite (ℕ_discrete s.cleared s.armed)
    (λ e. absurd (some_n (sym hit ∙ (k.word_is ∙ rw (eq-eqb s.cleared s.armed e) refl))))
    (λ ne. let same : n ≡ s.armed = sym hit ∙ (k.word_is ∙ rw (ne_eqb s.cleared s.armed ne) refl) in
    rw (eq-eqb s.word n hit) record { cleared_by = omega arith; word_is = rw (eq-eqb n s.armed same) refl }))
    (λ miss. rw (ne_eqb s.word n miss) record { cleared_by = k.cleared_by; word_is = k.word_is })

-- a step preserves the rule at its place
pub step_keeps : (p : ℕ) (deed : Deed) (s t : PlaceState) → PollStep p deed s t → IsPlaceKept s → IsPlaceKept t
step_keeps p deed s t (loads u) k = k
step_keeps p deed s t (stores u n later) k = let low = k.cleared_by in record { cleared_by = omega arith; word_is = rw (ne_eqb u.cleared n (λ e. omega arith)) refl }
step_keeps p deed s t (exchanges u n some_n) k = exchange_keeps u n some_n k

-- a step of a row preserves the rule of the row
pub row_step_keeps : StepsKeep
row_step_keeps places p deed before after r kept q low = dite (ℕ_discrete q p)
    (λ same. subst (λ j. IsPlaceKept (after j)) (sym same) (step_keeps p deed (before p) (after p) r.step (kept p r.in_range)))
    (λ other. subst IsPlaceKept (sym (r.others q other)) (kept q low))
