-- What a step makes of a view is what it makes of the state that the view is.
use Rattle.std.proofs.Common.{◌≡◌, ℕ, ◌||◌, ◌&&◌, eqb, Bool, true, false, List, refl}
use Rattle.frames.specs.declared.CodeId.{CodeId}
use Rattle.frames.specs.Stack.{same_code}
use Rattle.frames.specs.declared.board_rule.SlotView.{SlotView}
use Rattle.frames.specs.declared.board_rule.SeatView.{SeatView}
use Rattle.frames.specs.BoardWords.{says_in_use, says_gone}
use Rattle.frames.specs.BoardStep.{seat_entered, slot_looked, is_past}
use Rattle.frames.specs.BoardViews.{seat_state, slot_state, entered, slot_with_look, has_code, with_code, has_place, with_place}

with_code_has : (b : Bool) (c d : CodeId) (xs : List CodeId) → has_code (with_code b c xs) d ≡ ((same_code d c && b) || has_code xs d)
with_code_has true c d xs = by (same_code d c)
  where
    by : (a : Bool) → (a || has_code xs d) ≡ ((a && true) || has_code xs d)
    by true = refl
    by false = refl
with_code_has false c d xs = by (same_code d c)
  where
    by : (a : Bool) → has_code xs d ≡ ((a && false) || has_code xs d)
    by true = refl
    by false = refl

pub entered_is : (t : SeatView) (c : CodeId) (found : ℕ) → seat_state (entered t c found) ≡ seat_entered (seat_state t) c found
entered_is t c found = λ i. record {
  counted = (seat_state t).counted;
  fresh = λ d. with_code_has (says_in_use found c) c d t.fresh i;
  moment = t.moment;
  stored = t.stored;
  gone = λ d. with_code_has (says_gone found c) c d t.gone i;
}

pub with_place_has : (b : Bool) (p q : ℕ) (xs : List ℕ) → has_place (with_place b p xs) q ≡ ((eqb q p && b) || has_place xs q)
with_place_has true p q xs = by (eqb q p)
  where
    by : (a : Bool) → (a || has_place xs q) ≡ ((a && true) || has_place xs q)
    by true = refl
    by false = refl
with_place_has false p q xs = by (eqb q p)
  where
    by : (a : Bool) → has_place xs q ≡ ((a && false) || has_place xs q)
    by true = refl
    by false = refl

pub looked_is : (s : SlotView) (p found : ℕ) → slot_state (slot_with_look s p found) ≡ slot_looked (slot_state s) p found
looked_is s p found = λ i. record { serial = s.serial; state = s.state; left = s.left; looked = λ q. with_place_has (is_past s.left found) p q s.looked i; clear = s.clear }
