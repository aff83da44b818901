-- The system's tests of open operations at places.
use Rattle.std.specs.Prelude.{ℕ, Bool, true, false, not, ◌&&◌, ◌||◌, ◌==◌, if◌then◌else◌, nat_lt, nat_le, find, List, Option, Some, None}
use Rattle.std.specs.List.{list_all, list_any}
use Rattle.operations.specs.declared.Request.{Request}
use Rattle.operations.specs.declared.Request.TheVariants.{Handshake, Census}
use Rattle.operations.specs.Requests.{is_census, is_target}
use Rattle.system.specs.declared.answers.Answer.{Answer}
use Rattle.system.specs.declared.answers.Answer.TheVariants.{Refused, Told, Gone}
use Rattle.system.specs.declared.answers.Refusal.TheVariants.{NotOf, AlreadyTold}
use Rattle.system.specs.declared.requests.Open.{Open}
use Rattle.system.specs.declared.thread.Thread.{Thread as Kept}
use Rattle.system.specs.Kept.Threads.{is_live_for, live_by, untold_by}

-- A target of the operation is held at the place; the thread at the place has this name.
abbrev pub is_held_for : Open → Option Kept → Bool
is_held_for open_ None = false
is_held_for open_ (Some kept) = kept.held && is_target open_.request kept.name

abbrev pub is_named_at : ℕ → Option Kept → Bool
is_named_at name None = false
is_named_at name (Some kept) = kept.name == name

-- No live target is at the place, or the operation is cleared for it.
abbrev pub is_clear_at : Open → Option Kept → Bool
is_clear_at open_ None = true
is_clear_at open_ (Some kept) = nat_le open_.number kept.marks.cleared || not (is_live_for open_ kept)

-- The operation is over: a census is operated, and the operation is cleared for each live target.
abbrev pub is_over_at : Open → List (Option Kept) → Bool
is_over_at open_ kepts = (not (is_census open_.request) || open_.operated) && list_all (is_clear_at open_) kepts

-- A handshake may be told to the threads that it lists, a census to each of the first `given` names.
abbrev pub may_tell_of : ℕ → Request → ℕ → Bool
may_tell_of given (Handshake targets ask) name = is_target (Handshake targets ask) name
may_tell_of given Census name = nat_lt 0 name && nat_le name given

-- The answer to a Tell: whether an untold operation was found, whether one may be told to the name, and whether one has
-- the thread as a live target.
abbrev pub answer_of_told : Option Open → Bool → Bool → Answer
answer_of_told None may live = if not may then Refused NotOf else if live then Refused AlreadyTold else Gone
answer_of_told (Some open_) may live = Told

abbrev pub may_tell_any : ℕ → List Open → ℕ → Bool
may_tell_any given opens name = list_any (λ o. may_tell_of given o.request name) opens

abbrev pub answer_told : ℕ → List Open → Kept → Answer
answer_told given opens kept = answer_of_told (find (untold_by kept) opens) (may_tell_any given opens kept.name) (list_any (live_by kept) opens)
