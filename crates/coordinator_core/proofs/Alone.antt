-- If a handshake is the only open request, nothing but it is pending for the threads that are due for it.
use Rattle.std.proofs.Common.{◌≡◌, ◌||◌, ℕ, suc, zero, Bool, true, false, cond, List, [], ◌∷◌, Some, None, length, slice_index, take, refl, ap, ◌∙◌, arith}
use Rattle.std.specs.Prelude.{nat_lt}
use Rattle.std.specs.List.{list_any}
use Rattle.thread_state.specs.declared.poll_rule.Arming.{Arming}
use Rattle.operations.specs.declared.Kind.TheVariants as kind
use Rattle.desk.specs.declared.entries.Live.{Live}
use Rattle.desk.specs.Machine.{State}
use Rattle.desk.specs.Targets.{is_due_target, due_of, only_handshake, untold, untold_of}
use Rattle.desk.specs.DueTold.{AreToldAlone}
use Rattle.coordinator_core.specs.Telling.{telling_by, telling_of, telling_alone, is_there, more_behind, any_more, AreAskedAlone}

pub alone_is : (s : State) (n : ℕ) (armer : Arming) (l : Live) → ((last : ℕ) → untold s l.name last ≡ untold_of n last)
    → telling_of s kind.Handshake armer l ≡ telling_alone armer n l
alone_is s n armer l asked =
    ap (λ o. cond (nat_lt l.place (length armer.armed)) (telling_by kind.Handshake l (slice_index armer.armed l.place) o) None)
    (asked (slice_index armer.armed l.place))

not_above : (n : ℕ) → nat_lt n n ≡ false
not_above n = grind arith

none_behind : (s : State) (n : ℕ) (l : Live) (last : ℕ) (within later : Bool) → ((last : ℕ) → untold s l.name last ≡ untold_of n last)
    → more_behind s (cond within (telling_by kind.Handshake l last (cond later (Some n) None)) None) ≡ false
none_behind s n l last true true asked = ap is_there (asked n) ∙ ap (λ b. is_there (cond b (Some n) None)) (not_above n)
none_behind s n l last true false asked = refl
none_behind s n l last false later asked = refl

-- Nothing is pending after it.
pub none_further : (s : State) (n : ℕ) (armer : Arming) (ls : List Live) → AreAskedAlone s n ls → any_more s kind.Handshake armer ls ≡ false
none_further s n armer [] asked = refl
none_further s n armer (l ∷ ls) asked =
    ap (λ o. more_behind s o || any_more s kind.Handshake armer ls) (alone_is s n armer l asked.0)
    ∙ (ap (λ b. b || any_more s kind.Handshake armer ls) (none_behind s n l (slice_index armer.armed l.place) (nat_lt l.place (length armer.armed)) (nat_lt (slice_index armer.armed l.place) n) asked.0)
    ∙ none_further s n armer ls asked.1)

all_asked : (s : State) (n : ℕ) → AreToldAlone s → only_handshake s.opened ≡ Some n → (ls : List Live) → AreAskedAlone s n (due_of s.opened ls)
all_asked s n told alone [] = tt
all_asked s n told alone (l ∷ ls) = by (list_any (is_due_target l) s.opened) refl (all_asked s n told alone ls)
  where
    by : (b : Bool) → list_any (is_due_target l) s.opened ≡ b → AreAskedAlone s n (due_of s.opened ls) → AreAskedAlone s n (cond b (l ∷ due_of s.opened ls) (due_of s.opened ls))
    by true due rest = ((λ last. told n l last alone due), rest)
    by false due rest = rest

first_asked : (s : State) (n k : ℕ) (ls : List Live) → AreAskedAlone s n ls → AreAskedAlone s n (take k ls)
first_asked s n zero ls asked = tt
first_asked s n (suc k) [] asked = tt
first_asked s n (suc k) (l ∷ ls) asked = (asked.0, first_asked s n k ls asked.1)

-- The due threads are targets of it alone.
pub due_asked : (s : State) (n k : ℕ) → AreToldAlone s → only_handshake s.opened ≡ Some n → AreAskedAlone s n (take k (due_of s.opened s.live))
due_asked s n k told alone = first_asked s n k (due_of s.opened s.live) (all_asked s n told alone s.live)
