-- What one more entry of the log changes in what the log and the marks tell of a place.
use Rattle.std.proofs.Common.{◌≡◌, ℕ, ◌+◌, Bool, true, false, cond, List, [], ◌∷◌, sym, refl, ap, ap₂, ◌∙◌, arith}
use Rattle.operations.specs.Names.{is_empty}
use Rattle.system.specs.declared.events.Event.{Event}
use Rattle.system.specs.declared.answers.Answer.{Answer}
use Rattle.system.specs.Operations.{Requests, Mark}
use Rattle.system.specs.Log.{Entry, is_start, names_given}
use Rattle.system.specs.Ran.{started_or, name_in}
use Rattle.tie.specs.PollRow.{tells, clears, told_before, cleared_before, armed_at, uncleared_at, cleared_at}
use Rattle.system.proofs.Logs.{names_next}

-- Where nothing is uncleared, what was told last is what was told last then.
pub cleared_idle : (p : ℕ) (told cleared : List Mark) (log : List Entry) → cleared_at p told cleared log ≡ cond (is_empty (uncleared_at p told cleared log)) (armed_at p told log) (cleared_at p told cleared log)
cleared_idle p told cleared [] = refl
cleared_idle p told cleared (entry ∷ log) = by (is_empty (uncleared_at p told cleared (entry ∷ log)))
  where
    before : ℕ
    before = cleared_at p (told_before entry.event entry.answer told) (cleared_before entry.event cleared) log

    by : (b : Bool) → cond b (armed_at p told (entry ∷ log)) before ≡ cond b (armed_at p told (entry ∷ log)) (cond b (armed_at p told (entry ∷ log)) before)
    by true = refl
    by false = refl

-- An entry that tells and clears nothing at the place, between these requests.
pub record IsElsewhere (p : ℕ) (entry : Entry) (log : List Entry) (old new : Requests) : Type 0 where
  pub tells_not : tells p entry.event entry.answer log ≡ false
  pub clears_not : clears p entry.event ≡ false
  pub told_is : told_before entry.event entry.answer new.told ≡ old.told
  pub cleared_is : cleared_before entry.event new.cleared ≡ old.cleared

pub armed_rests : (p : ℕ) (entry : Entry) (log : List Entry) (old new : Requests) → IsElsewhere p entry log old new → armed_at p new.told (entry ∷ log) ≡ armed_at p old.told log
armed_rests p entry log old new h = (rw h.tells_not refl) ∙ ap (λ ms. armed_at p ms log) h.told_is

pub uncleared_rests : (p : ℕ) (entry : Entry) (log : List Entry) (old new : Requests) → IsElsewhere p entry log old new → uncleared_at p new.told new.cleared (entry ∷ log) ≡ uncleared_at p old.told old.cleared log
uncleared_rests p entry log old new h = (rw (h.tells_not, h.clears_not) refl) ∙ ap₂ (λ ms ns. uncleared_at p ms ns log) h.told_is h.cleared_is

pub cleared_rests : (p : ℕ) (entry : Entry) (log : List Entry) (old new : Requests) → IsElsewhere p entry log old new → cleared_at p new.told new.cleared (entry ∷ log) ≡ cleared_at p old.told old.cleared log
cleared_rests p entry log old new h =
    (let a = armed_rests p entry log old new h in let u = uncleared_rests p entry log old new h in rw (a, u) refl)
    ∙ (ap₂ (λ ms ns. cond (is_empty (uncleared_at p old.told old.cleared log)) (armed_at p old.told log) (cleared_at p ms ns log)) h.told_is h.cleared_is ∙ sym (cleared_idle p old.told old.cleared log))

-- An entry that tells and clears nothing at any place and gives no name.
pub record IsSilent (e : Event) (a : Answer) : Type 0 where
  pub tells_none : (p : ℕ) (log : List Entry) → tells p e a log ≡ false
  pub clears_none : (p : ℕ) → clears p e ≡ false
  pub told_stays : (marks : List Mark) → told_before e a marks ≡ marks
  pub cleared_stays : (marks : List Mark) → cleared_before e marks ≡ marks
  pub starts_none : is_start e ≡ false
  pub names_none : (p n : ℕ) → started_or p n e a ≡ n

pub elsewhere : (p : ℕ) (e : Event) (a : Answer) (log : List Entry) (requests : Requests) → IsSilent e a → IsElsewhere p (record { event = e; answer = a }) log requests requests
elsewhere p e a log requests s = record { tells_not = s.tells_none p log; clears_not = s.clears_none p; told_is = s.told_stays requests.told; cleared_is = s.cleared_stays requests.cleared }

pub names_rest : (e : Event) (a : Answer) (log : List Entry) → IsSilent e a → names_given (record { event = e; answer = a } ∷ log) ≡ names_given log
names_rest e a log s = let h : names_given (record { event = e; answer = a } ∷ log) ≡ 0 + names_given log = names_next (record { event = e; answer = a }) log ∙ (let b = s.starts_none in rw b refl) in omega (arith, h)

pub name_rests : (p : ℕ) (e : Event) (a : Answer) (log : List Entry) → IsSilent e a → name_in p (record { event = e; answer = a } ∷ log) ≡ name_in p log
name_rests p e a log s = s.names_none p (name_in p log)
