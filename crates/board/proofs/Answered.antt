-- What a seat says of its step stands in the words, whatever play it steps with.
use Rattle.std.proofs.Common.{◌≡◌, ℕ, suc, List, [], get_or, set, ap, ⊎_elim, subst, arith}
use mathlib.Core.Option.{some}
use lib.ListN.{get_elem?}
use Rattle.atomic_table.proofs.Lists.{at_set}
use Rattle.frames.specs.declared.board_rule.SeatView.{SeatView}
use Rattle.frames.specs.declared.board_rule.BoardView.{BoardView}
use Rattle.frames.specs.declared.board_rule.BoardView.TheVariants.{Keeper, Thread, Ended}
use Rattle.board.specs.Boards.{word_in, thread_of, stamp_of, IsToldBy, IsTold, IsLatest}
use Rattle.board.specs.Laws.{AnswersStand, KeeperAnswersStand}
use Rattle.board.proofs.Tables.{Whole, set_found}
use Rattle.board.proofs.Calm.{calm, calm_latest, calm_thread, calm_keeper, own_at}

thread_told : (slots : ℕ) (ws : List ℕ) (v : BoardView) (t : SeatView) → thread_of v ≡ t → IsTold slots ws v → IsToldBy (word_in slots ws) t.place t.last
thread_told slots ws (Keeper k us g) t is told = subst (λ (x : SeatView). IsToldBy (word_in slots ws) x.place x.last) is tt
thread_told slots ws (Thread u g) t is told = subst (λ (x : SeatView). IsToldBy (word_in slots ws) x.place x.last) is told
thread_told slots ws Ended t is told = subst (λ (x : SeatView). IsToldBy (word_in slots ws) x.place x.last) is tt

pub answers_stand : AnswersStand
answers_stand n slots p i stamp t u f s found has allowed =
    let s' : Whole = calm (suc p) stamp s in
    let at : get_elem? s'.views (suc p) ≡ some (Thread t stamp) = own_at (suc p) stamp s.views (Thread t has.0) has.1 in
    let a = allowed s' (calm_thread n s p stamp found.board) found.homes at found.fits in
    let v : BoardView = a.0 in let q = a.3.2 in let told = a.4 in
    let after = set s'.views (suc p) v in let ws = set s.words i (f (get_or s.words i 0)) in
    let above : IsLatest after (stamp_of v) = λ j w e. ⊎_elim (λ h. let is : stamp_of v ≡ stamp_of w = ap stamp_of h.1 in omega arith)
    (λ h. let below = calm_latest (suc p) stamp s.views j w h.1 in let past = told.1 in omega arith)
    (at_set s'.views (suc p) j v w e) in
    thread_told n.0 ws v (u (get_or s.words i 0)) told.0 (q.told (suc p) v (set_found s'.views (suc p) (Thread t stamp) v at) above)

pub keeper_answers_stand : KeeperAnswersStand
keeper_answers_stand n slots i stamp p k t u f s found has seat allowed =
    let s' : Whole = calm 0 stamp s in
    let at : get_elem? s'.views 0 ≡ some (Keeper k [] stamp) = own_at 0 stamp s.views (Keeper k [] has.0) has.1 in
    let a = allowed s' (calm_keeper n s p stamp seat.0 t found.board seat.1) found.homes at found.fits in
    let v : BoardView = a.0 in let q = a.3.2 in let told = a.4 in
    let after = set s'.views 0 v in let ws = set s.words i (f (get_or s.words i 0)) in
    let above : IsLatest after (stamp_of v) = λ j w e. ⊎_elim (λ h. let is : stamp_of v ≡ stamp_of w = ap stamp_of h.1 in omega arith)
    (λ h. let below = calm_latest 0 stamp s.views j w h.1 in let past = told.1 in omega arith)
    (at_set s'.views 0 j v w e) in
    subst (IsTold n.0 ws) told.0 (q.told 0 v (set_found s'.views 0 (Keeper k [] stamp) v at) above)
