-- Lists of seats and pollers as they are made: each element is that of its index.
use Rattle.std.proofs.Common.{◌≡◌, ℕ, zero, suc, ◌<◌, List, [], ◌∷◌, length, Some, arith, ◌∙◌, sym, ap}
use Rattle.std.specs.Prelude.{slice_get}
use Rattle.board.specs.Boards.{BoardId, SeatSeen, first_seat}
use Rattle.poll.specs.Rows.{RowId, PollerSeen, first_poller}
use Rattle.thread_list.specs.Sized.{AreSeatsOf, ArePollersOf}

at_low : {A : Type 0} (xs : List A) (i : ℕ) (x : A) → slice_get xs i ≡ Some x → i < length xs
at_low [] i x h = cc
at_low (y ∷ ys) zero x h = omega arith
at_low (y ∷ ys) (suc i) x h = let r = at_low ys i x h in omega arith

same_some : {A : Type 0} {x y : A} → Some x ≡ Some y → x ≡ y
same_some e = cc

pub seats_made : (board : BoardId) (places : ℕ) (seats : List SeatSeen) → length seats ≡ places → ((k : ℕ) → k < places → slice_get seats k ≡ Some (first_seat board k)) → AreSeatsOf board seats
seats_made board places seats many each k s h =
    let low = at_low seats k s h in
    let same = same_some (sym h ∙ each k (omega arith)) in
    (ap (λ (x : SeatSeen). x.board) same, ap (λ (x : SeatSeen). x.seen) same)

pub pollers_made : (row : RowId) (places : ℕ) (pollers : List PollerSeen) → length pollers ≡ places → ((k : ℕ) → k < places → slice_get pollers k ≡ Some (first_poller row k)) → ArePollersOf row pollers
pollers_made row places pollers many each k p h =
    let low = at_low pollers k p h in
    let same = same_some (sym h ∙ each k (omega arith)) in
    (ap (λ (x : PollerSeen). x.table) same, ap (λ (x : PollerSeen). x.seen.place) same)
