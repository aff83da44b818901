-- How a run goes on: each move makes the first mark of what is left.
use Rattle.std.proofs.Common.{◌≡◌, ℕ, zero, suc, ◌+◌, ◌-◌, ◌<◌, ◌≤◌, List, [], ◌∷◌, length, map, get_or, set, nat_lt, Bool, true, false, cond, Option, Some, None, inl, inr, slice_get, option_and_then, refl, sym, ap, subst, ◌∙◌, length-set, arith}
use Rattle.std.specs.Prelude.{⊤}
use Rattle.std.proofs.lemmas.Bool.Decides.{nat_tests}
use Rattle.script.specs.declared.items.Action.{Action}
use Rattle.script.specs.declared.items.Action.TheVariants as does
use Rattle.script.specs.declared.code.Op.{Op}
use Rattle.script.specs.declared.code.Op.TheVariants as op
use Rattle.script.specs.Body.{Body}
use Rattle.script.specs.Checked.{IsChecked, AllChecked, AreChecked}
use Rattle.script.specs.Layout.{ops, routine}
use Rattle.interp.specs.declared.mark.Mark.{Mark}
use Rattle.interp.specs.declared.mark.Mark.TheVariants as mark
use Rattle.interp.specs.declared.frame.Frame.{Frame}
use Rattle.interp.specs.declared.frame.Phase.{Phase}
use Rattle.interp.specs.declared.frame.Phase.TheVariants as phase
use Rattle.interp.specs.declared.frame.Move.TheVariants as move
use Rattle.interp.specs.declared.frame.Ahead.{Ahead}
use Rattle.interp.specs.declared.frame.Ahead.TheVariants as ahead
use Rattle.interp.specs.Trace.{Trace, finished, overflowed, made, followed, action_trace, body_trace, body_of, method_trace}
use Rattle.interp.specs.Left.{IsQuiet, At, FrameAt, Stand, LeftIn}
use Rattle.interp.specs.Moves.{fresh, passed, Moved, action_ahead, op_ahead, op_at, ahead_of}
use Rattle.interp.proofs.Sequence.{followed-assoc}
use Rattle.interp.proofs.Next.{start, Turns, Next, next}
use Rattle.interp.proofs.Stands.{stand-length, stand-push, stand-pop}

abbrev pub GoesOn : List Body → Phase → Frame → List Frame → Trace → Ahead → Type 0
GoesOn bs p f cs t ahead.Finished = t ≡ finished
GoesOn bs p f cs t ahead.Overflow = t ≡ overflowed
GoesOn bs p f cs t (ahead.Made m v) = (u : Trace) × (t ≡ made m u) × ((q : Phase) (g : Frame) (ds : List Frame) → Moved v p f cs q g ds → LeftIn bs q g ds u)

checked-at : (count : ℕ) (bs : List Body) (m : ℕ) → AllChecked count bs → IsChecked count 0 (body_of bs m)
checked-at count [] m h = tt
checked-at count (b ∷ bs) zero h = h.0
checked-at count (b ∷ bs) (suc m) h = checked-at count bs m h.1

op-body : (bs : List Body) (m at : ℕ) → option_and_then (λ r. slice_get r at) (slice_get (map routine bs) m) ≡ slice_get (ops 0 0 (body_of bs m)) at
op-body [] m at = refl
op-body (b ∷ bs) zero at = refl
op-body (b ∷ bs) (suc m) at = op-body bs m at

abbrev AreNothing : List ℕ → Type 0
AreNothing [] = ⊤
AreNothing (x ∷ xs) = (x ≡ 0) × AreNothing xs

nothing-at : (xs : List ℕ) (k : ℕ) → AreNothing xs → get_or xs k 0 ≡ 0
nothing-at [] k h = refl
nothing-at (x ∷ xs) zero h = h.0
nothing-at (x ∷ xs) (suc k) h = nothing-at xs k h.1

quiet : (m : ℕ) → IsQuiet 0 (fresh m).turns
quiet m k h = nothing-at (fresh m).turns k (refl, (refl, (refl, (refl, (refl, (refl, (refl, (refl, tt))))))))

begins : (bs : List Body) (left m : ℕ) → AreChecked bs → FrameAt bs left (fresh m) (body_trace (method_trace left bs) (body_of bs m))
begins bs left m c = (refl, start (method_trace left bs) 0 (body_of bs m) (fresh m).turns (length bs) (quiet m) (checked-at (length bs) bs m c))

-- a frame of the run, and what is left
pub record Runs (bs : List Body) (f : Frame) (cs : List Frame) (left : ℕ) (then : Trace) : Type 0 where
  pub checked : AreChecked bs
  pub stand : Stand bs 256 cs finished (suc left) then
  pub turns : length f.turns ≡ 8

same_frame : (bs : List Body) (f : Frame) (cs : List Frame) (left : ℕ) (then u : Trace) (r : Runs bs f cs left then) (h : Frame) → h.method ≡ f.method → FrameAt bs left h u
    → (q : Phase) (g : Frame) (ds : List Frame) → (q ≡ phase.Running) × (g ≡ h) × (ds ≡ cs) → LeftIn bs q g ds (followed u (made (mark.Out f.method) then))
same_frame bs f cs left then u r h name at q g ds m =
    rw (m.0, m.1, m.2) (left, then, u, r.stand, at, ap (λ k. followed u (made (mark.Out k) then)) (sym name))

plain : (bs : List Body) (f : Frame) (cs : List Frame) (left : ℕ) (then u v : Trace) (m : Mark) → Runs bs f cs left then
    → u ≡ made m v → At (method_trace left bs) 0 (body_of bs f.method) (f.at + 1) f.turns v
    → GoesOn bs phase.Running f cs (followed u (made (mark.Out f.method) then)) (ahead.Made m move.Pass)
plain bs f cs left then u v m r e at =
    (followed v (made (mark.Out f.method) then), ap (λ w. followed w (made (mark.Out f.method) then)) e, same_frame bs f cs left then v r (passed f) refl (r.turns, at))

called : (bs : List Body) (f : Frame) (cs : List Frame) (left : ℕ) (then u v : Trace) (m : ℕ) (deep : Bool) → Runs bs f cs left then
    → nat_lt (length cs) 255 ≡ deep
    → u ≡ followed (method_trace left bs m) v → At (method_trace left bs) 0 (body_of bs f.method) (f.at + 1) f.turns v
    → GoesOn bs phase.Running f cs (followed u (made (mark.Out f.method) then)) (cond deep (ahead.Made (mark.In m) (move.Enter m)) ahead.Overflow)
unfolding method_trace
called bs f cs zero then u v m true r e is at =
    let below : length cs < 255 = grind (nat_tests, arith, e) in
    absurd (omega (arith, stand-length bs 256 cs finished 1 then r.stand, below))
called bs f cs (suc left) then u v m true r e is at =
    let later = followed v (made (mark.Out f.method) then) in
    let body = body_trace (method_trace left bs) (body_of bs m) in (
      followed body (made (mark.Out m) later),
      ap (λ w. followed w (made (mark.Out f.method) then)) is ∙ followed-assoc (method_trace (suc left) bs m) v (made (mark.Out f.method) then)
          ∙ ap (made (mark.In m)) (followed-assoc body (made (mark.Out m) finished) later),
      λ q g ds w. rw (w.0, w.1, w.2)
          (left, later, body, stand-push bs 256 cs finished (suc left) then v (passed f) r.stand (r.turns, at), begins bs left m r.checked, refl),
    )
called bs f cs zero then u v m false r e is at = ap (λ w. followed w (made (mark.Out f.method) then)) is
called bs f cs (suc left) then u v m false r e is at =
    let full : 255 ≤ length cs = grind (nat_tests, arith, e) in
    absurd (omega (arith, stand-length bs 256 cs finished (suc (suc left)) then r.stand, full))

edge : (bs : List Body) (f : Frame) (cs : List Frame) (left : ℕ) (then u : Trace) (n s l k : ℕ) → Runs bs f cs left then
    → (h : Turns (method_trace left bs) 0 0 (body_of bs f.method) f.turns u f.at n s l) → h.to_come ≡ k
    → GoesOn bs phase.Running f cs (followed u (made (mark.Out f.method) then)) (ahead.Made mark.Edge (move.Turn n s l))
edge bs f cs left then u n s l zero r h e =
    let v = h.over e in
    let last : nat_lt (get_or f.turns l 0) (n - 1) ≡ false = grind (nat_tests, arith, h.count, e) in
    let len : length (set f.turns l 0) ≡ 8 = simp length-set r.turns in (
      followed v.0 (made (mark.Out f.method) then),
      ap (λ w. followed w (made (mark.Out f.method) then)) v.1,
      λ q g ds m. same_frame bs f cs left then v.0 r (record { method = f.method; at = f.at + 1; turns = set f.turns l 0 }) refl (len, v.2) q g ds
          (m.0, m.1 ∙ ap (λ b. cond b (record { method = f.method; at = s; turns = set f.turns l (get_or f.turns l 0 + 1) }) (record { method = f.method; at = f.at + 1; turns = set f.turns l 0 })) last, m.2),
    )
edge bs f cs left then u n s l (suc p) r h e =
    let v = h.again p e in
    let more : nat_lt (get_or f.turns l 0) (n - 1) ≡ true = grind (nat_tests, arith, h.count, e) in
    let len : length (set f.turns l (get_or f.turns l 0 + 1)) ≡ 8 = simp length-set r.turns in
    let back : h.back ≡ s = omega (arith, h.first) in (
      followed v.0 (made (mark.Out f.method) then),
      ap (λ w. followed w (made (mark.Out f.method) then)) v.1,
      λ q g ds m. same_frame bs f cs left then v.0 r (record { method = f.method; at = s; turns = set f.turns l (get_or f.turns l 0 + 1) }) refl
          (len, subst (λ a. At (method_trace left bs) 0 (body_of bs f.method) a (set f.turns l (get_or f.turns l 0 + 1)) v.0) back v.2) q g ds
          (m.0, m.1 ∙ ap (λ b. cond b (record { method = f.method; at = s; turns = set f.turns l (get_or f.turns l 0 + 1) }) (record { method = f.method; at = f.at + 1; turns = set f.turns l 0 })) more, m.2),
    )

leaves : (bs : List Body) (f : Frame) (cs : List Frame) (left : ℕ) (then u : Trace) → Runs bs f cs left then → u ≡ finished
    → GoesOn bs phase.Running f cs (followed u (made (mark.Out f.method) then)) (ahead.Made (mark.Out f.method) move.Leave)
leaves bs f cs left then u r e = (
  then,
  ap (λ w. followed w (made (mark.Out f.method) then)) e,
  λ q g ds m. elim m [
    | inl w ↦ rw w.1 (subst (λ fs. Stand bs 256 fs finished (suc left) then) w.0 r.stand).1
    | inr w ↦
        let last = stand-pop bs 256 ds finished (suc left) then g (subst (λ fs. Stand bs 256 fs finished (suc left) then) w.1 r.stand) in
        rw w.0 (suc left, last.follows, last.own, last.stand, last.at, last.is)
  ],
)

acts : (bs : List Body) (f : Frame) (cs : List Frame) (left : ℕ) (then u v : Trace) (a : Action) → Runs bs f cs left then
    → u ≡ followed (action_trace (method_trace left bs) a) v → At (method_trace left bs) 0 (body_of bs f.method) (f.at + 1) f.turns v
    → GoesOn bs phase.Running f cs (followed u (made (mark.Out f.method) then)) (action_ahead (length cs) a)
acts bs f cs left then u v does.Native r is at = plain bs f cs left then u v mark.Native r is at
acts bs f cs left then u v does.Vm r is at = plain bs f cs left then u v mark.Vm r is at
acts bs f cs left then u v does.Block r is at = plain bs f cs left then u v mark.Block r is at
acts bs f cs left then u v does.Tick r is at = plain bs f cs left then u v mark.Tick r is at
acts bs f cs left then u v (does.Call m) r is at = called bs f cs left then u v m (nat_lt (length cs) 255) r refl is at

ops_go : (bs : List Body) (f : Frame) (cs : List Frame) (left : ℕ) (then u : Trace) (o : Option Op) → Runs bs f cs left then
    → Next (method_trace left bs) 0 0 (body_of bs f.method) f.turns u f.at o
    → GoesOn bs phase.Running f cs (followed u (made (mark.Out f.method) then)) (op_ahead (length cs) f o)
ops_go bs f cs left then u None r h = leaves bs f cs left then u r h.0
ops_go bs f cs left then u (Some (op.Action a)) r h = acts bs f cs left then u h.0 a r h.1 h.2
ops_go bs f cs left then u (Some (op.Edge n s l)) r h = edge bs f cs left then u n s l h.to_come r h refl

begin : (bs : List Body) (f : Frame) (cs : List Frame) (t : Trace) → AreChecked bs → LeftIn bs phase.Fresh f cs t → GoesOn bs phase.Fresh f cs t (ahead.Made (mark.In 0) move.Begin)
unfolding method_trace
begin bs f cs t c h =
    let body = body_trace (method_trace 255 bs) (body_of bs 0) in (
      followed body (made (mark.Out 0) finished),
      h.2,
      λ q g ds m. rw (m.0, m.1, m.2, h.0, h.1) (255, finished, body, (refl, refl), begins bs 255 0 c, refl),
    )

-- what is left of a run, and what comes next
pub goes_on : (code : List (List Op)) (bs : List Body) (p : Phase) (f : Frame) (cs : List Frame) (t : Trace) → code ≡ map routine bs → AreChecked bs → LeftIn bs p f cs t
    → GoesOn bs p f cs t (ahead_of code p f cs)
goes_on code bs phase.Fresh f cs t is c h = begin bs f cs t c h
goes_on code bs phase.Running f cs t is c h =
    let call = method_trace h.0 bs in
    let nx = next call 0 0 (body_of bs f.method) f.turns h.2 f.at (length bs) h.4.0 (checked-at (length bs) bs f.method c) h.4.1 in
    let found : op_at code f ≡ slice_get (ops 0 0 (body_of bs f.method)) f.at = rw is (op-body bs f.method f.at) in
    subst (λ v. GoesOn bs phase.Running f cs v (ahead_of code phase.Running f cs)) (sym h.5)
    (ops_go bs f cs h.0 h.1 h.2 (op_at code f) (record { checked = c; stand = h.3; turns = h.4.0 })
    (subst (λ o. Next call 0 0 (body_of bs f.method) f.turns h.2 f.at o) (sym found) nx))
goes_on code bs phase.Finished f cs t is c h = h
