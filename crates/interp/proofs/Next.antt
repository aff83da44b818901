-- What a step of a body's flat code does to what is left of the body.
use Rattle.std.proofs.Common.{◌≡◌, ℕ, zero, suc, ◌+◌, ◌-◌, ◌<◌, ◌≤◌, ◌≢◌, List, [], ◌∷◌, ◌++◌, length, get_or, set, Option, Some, None, inl, inr, refl, sym, ap, subst, ◌∙◌, zero-add, slice_get, get_or-set_other, get_or-set_same, length-append, arith}
use Rattle.std.specs.Prelude.{◌⊎◌}
use Rattle.std.proofs.Math.Nat.{eq-or-lt_of_le}
use Rattle.std.proofs.lemmas.Option.{slice_get_cases}
use Rattle.script.specs.declared.code.Op.{Op}
use Rattle.script.specs.declared.code.Op.TheVariants as op
use Rattle.script.specs.Body.{Body, finish, act, loop}
use Rattle.script.specs.Checked.{IsChecked}
use Rattle.script.specs.Layout.{ops}
use Rattle.interp.specs.declared.mark.Mark.TheVariants as mark
use Rattle.interp.specs.Trace.{Trace, finished, made, followed, times, action_trace, body_trace}
use Rattle.interp.specs.Left.{size, IsQuiet, At}
use Rattle.interp.proofs.Sequence.{followed-assoc, turned, times-zero}

deeper : (level : ℕ) (turns : List ℕ) → IsQuiet level turns → IsQuiet (level + 1) turns
deeper level turns q k h = q k (omega arith)

pub start : (call : ℕ → Trace) (level : ℕ) (b : Body) (turns : List ℕ) (count : ℕ) → IsQuiet level turns → IsChecked count level b → At call level b 0 turns (body_trace call b)
start call level finish turns count q c = (refl, q, refl)
start call level (act a rest) turns count q c = inl (refl, q, refl)
start call level (loop n b rest) turns count q c =
    let none : get_or turns level 0 ≡ 0 = q level (omega arith) in
    let some : suc (n - 1) ≡ n = omega (arith, c.0.0) in
    let all : get_or turns level 0 + suc (n - 1) ≡ n = omega (arith, c.0.0) in
    inl (
      body_trace call b,
      n - 1,
      start call (level + 1) b turns count (deeper level turns q) c.1,
      all,
      ap (λ m. followed (times m (followed (body_trace call b) (made mark.Edge finished))) (body_trace call rest)) (sym some) ∙ turned (body_trace call b) (body_trace call rest) (n - 1),
    )

within : (call : ℕ → Trace) (level : ℕ) (b : Body) (at : ℕ) (turns : List ℕ) (t : Trace) → At call level b at turns t → at ≤ size b
within call level finish at turns t h = omega (arith, h.0)
within call level (act a rest) at turns t h = elim h [
  | inl s ↦ omega (arith, s.0)
  | inr s ↦ omega (arith, s.1, within call level rest s.0 turns t s.2)
]
within call level (loop n b rest) at turns t h = elim h [
  | inl s ↦ omega (arith, within call (level + 1) b at turns s.0 s.2)
  | inr s ↦ omega (arith, s.1, within call level rest s.0 turns t s.2)
]

pub length-ops : (base level : ℕ) (b : Body) → length (ops base level b) ≡ size b
length-ops base level finish = refl
length-ops base level (act a rest) = ap suc (length-ops (base + 1) level rest)
length-ops base level (loop n b rest) =
    let inner = ops base (level + 1) b in
    let tail = ops (base + length inner + 1) level rest in
    omega (arith, length-append inner (op.Edge n base level ∷ tail), length-ops base (level + 1) b, length-ops (base + length inner + 1) level rest)

-- what an edge does: another turn, or the end of the loop
pub record Turns (call : ℕ → Trace) (base level : ℕ) (b : Body) (turns : List ℕ) (t : Trace) (at : ℕ) (n start' lvl : ℕ) : Type 0 where
  pub deep : level ≤ lvl
  pub shallow : lvl < 8
  pub to_come : ℕ
  pub back : ℕ
  pub count : get_or turns lvl 0 + suc to_come ≡ n
  pub first : start' ≡ base + back
  pub again : (p : ℕ) → to_come ≡ suc p → (u : Trace) × (t ≡ made mark.Edge u) × At call level b back (set turns lvl (get_or turns lvl 0 + 1)) u
  pub over : to_come ≡ 0 → (u : Trace) × (t ≡ made mark.Edge u) × At call level b (at + 1) (set turns lvl 0) u

abbrev pub Next : (ℕ → Trace) → ℕ → ℕ → Body → List ℕ → Trace → ℕ → Option Op → Type 0
Next call base level b turns t at None = (t ≡ finished) × IsQuiet level turns
Next call base level b turns t at (Some (op.Action a)) = (u : Trace) × (t ≡ followed (action_trace call a) u) × At call level b (at + 1) turns u
Next call base level b turns t at (Some (op.Edge n s l)) = Turns call base level b turns t at n s l

-- what follows an item goes on as it would alone
later : (call : ℕ → Trace) (base level : ℕ) (whole rest : Body) (d : ℕ) (turns : List ℕ) (t : Trace) (p : ℕ)
    → ((at : ℕ) (ts : List ℕ) (u : Trace) → At call level rest at ts u → At call level whole (d + at) ts u)
    → (o : Option Op) → Next call (base + d) level rest turns t p o → Next call base level whole turns t (d + p) o
later call base level whole rest d turns t p embed None h = h
later call base level whole rest d turns t p embed (Some (op.Action a)) h =
    let same : d + (p + 1) ≡ d + p + 1 = omega arith in
    (h.0, h.1, subst (λ k. At call level whole k turns h.0) same (embed (p + 1) turns h.0 h.2))
later call base level whole rest d turns t p embed (Some (op.Edge n s l)) h =
    let same : d + (p + 1) ≡ d + p + 1 = omega arith in
    record {
      deep = h.deep;
      shallow = h.shallow;
      to_come = h.to_come;
      back = d + h.back;
      count = h.count;
      first = omega (arith, h.first);
      again = λ q e. let r = h.again q e in (r.0, r.1, embed h.back (set turns l (get_or turns l 0 + 1)) r.0 r.2);
      over = λ e. let r = h.over e in (r.0, r.1, subst (λ k. At call level whole k (set turns l 0) r.0) same (embed (p + 1) (set turns l 0) r.0 r.2));
    }

-- inside a loop, a step of its body
inner_step : (call : ℕ → Trace) (base level : ℕ) (n : ℕ) (b rest : Body) (turns : List ℕ) (u : Trace) (to_come at : ℕ) → length turns ≡ 8
    → get_or turns level 0 + suc to_come ≡ n
    → (o : Op) → Next call base (level + 1) b turns u at (Some o)
    → Next call base level (loop n b rest) turns
    (followed u (made mark.Edge (followed (times to_come (followed (body_trace call b) (made mark.Edge finished))) (body_trace call rest)))) at (Some o)
inner_step call base level n b rest turns u to_come at len count (op.Action a) h =
    let then = made mark.Edge (followed (times to_come (followed (body_trace call b) (made mark.Edge finished))) (body_trace call rest)) in (
      followed h.0 then,
      ap (λ v. followed v then) h.1 ∙ followed-assoc (action_trace call a) h.0 then,
      inl (h.0, to_come, h.2, count, refl),
    )
inner_step call base level n b rest turns u to_come at len count (op.Edge m s l) h =
    let then = made mark.Edge (followed (times to_come (followed (body_trace call b) (made mark.Edge finished))) (body_trace call rest)) in
    let other : level ≢ l = omega (arith, h.deep) in
    record {
      deep = omega (arith, h.deep);
      shallow = h.shallow;
      to_come = h.to_come;
      back = h.back;
      count = h.count;
      first = h.first;
      again = λ q e. let r = h.again q e in (
        followed r.0 then,
        ap (λ v. followed v then) r.1,
        inl (r.0, to_come, r.2, rw get_or-set_other count, refl),
      );
      over = λ e. let r = h.over e in (
        followed r.0 then,
        ap (λ v. followed v then) r.1,
        inl (r.0, to_come, r.2, rw get_or-set_other count, refl),
      );
    }

slice_get-front : (xs ys : List Op) (k : ℕ) (x : Op) → slice_get xs k ≡ Some x → slice_get (xs ++ ys) k ≡ Some x
slice_get-front [] ys k x h = absurd (cc)
slice_get-front (y ∷ xs) ys zero x h = h
slice_get-front (y ∷ xs) ys (suc k) x h = slice_get-front xs ys k x h

slice_get-back : (xs ys : List Op) (k : ℕ) → slice_get (xs ++ ys) (length xs + k) ≡ slice_get ys k
slice_get-back [] ys k = ap (slice_get ys) (zero-add k)
slice_get-back (x ∷ xs) ys k = let same : suc (length xs) + k ≡ suc (length xs + k) = omega arith in ap (slice_get (x ∷ (xs ++ ys))) same ∙ slice_get-back xs ys k

slice_cases : (level k : ℕ) → level ≤ k → (level ≡ k) ⊎ (level + 1 ≤ k)
slice_cases level k h = elim (eq-or-lt_of_le h) [ inl e ↦ inl e | inr l ↦ inr (omega (arith, l)) ]

-- at a loop's edge
edge_step : (call : ℕ → Trace) (base level : ℕ) (n : ℕ) (b rest : Body) (turns : List ℕ) (u : Trace) (to_come at count : ℕ) → length turns ≡ 8
    → IsChecked count level (loop n b rest)
    → get_or turns level 0 + suc to_come ≡ n
    → u ≡ finished → IsQuiet (level + 1) turns → at ≡ size b
    → Turns call base level (loop n b rest) turns
    (followed u (made mark.Edge (followed (times to_come (followed (body_trace call b) (made mark.Edge finished))) (body_trace call rest)))) at n base level
edge_step call base level n b rest turns u to_come at count len c counted none quiet is_at =
    let turn = followed (body_trace call b) (made mark.Edge finished) in
    let then = made mark.Edge (followed (times to_come turn) (body_trace call rest)) in
    let fits : level < length turns = omega (arith, len, c.0.2) in
    let still : (v : ℕ) → IsQuiet (level + 1) (set turns level v) = λ v k h.
    let other : k ≢ level = omega (arith, h) in rw get_or-set_other (quiet k h) in
    record {
      deep = omega arith;
      shallow = c.0.2;
      to_come = to_come;
      back = 0;
      count = counted;
      first = omega arith;
      again = λ p e.
          let ended = get_or turns level 0 + 1 in
          let left : get_or (set turns level ended) level 0 + suc p ≡ n = rw get_or-set_same (omega (arith, counted, e)) in (
            followed (times to_come turn) (body_trace call rest),
            ap (λ v. followed v then) none,
            inl (
              body_trace call b,
              p,
              start call (level + 1) b (set turns level ended) count (still ended) c.1,
              left,
              ap (λ q. followed (times q turn) (body_trace call rest)) e ∙ turned (body_trace call b) (body_trace call rest) p,
            ),
          );
      over = λ e.
          let calm : IsQuiet level (set turns level 0) = λ k h. elim (slice_cases level k h) [
            | inl same ↦ subst (λ j. get_or (set turns level 0) j 0 ≡ 0) same (rw get_or-set_same refl)
            | inr more ↦ still 0 k more
          ] in (
            body_trace call rest,
            ap (λ v. followed v then) none ∙ ap (λ q. made mark.Edge (followed (times q turn) (body_trace call rest))) e ∙ ap (made mark.Edge) (times-zero turn (body_trace call rest)),
            inr (0, omega (arith, is_at), start call level rest (set turns level 0) count calm c.2),
          );
    }

pub next : (call : ℕ → Trace) (base level : ℕ) (b : Body) (turns : List ℕ) (t : Trace) (at count : ℕ) → length turns ≡ 8 → IsChecked count level b
    → At call level b at turns t → Next call base level b turns t at (slice_get (ops base level b) at)
next call base level finish turns t at count len c h = (h.2, h.1)
next call base level (act a rest) turns t at count len c h = elim h [
  | inl s ↦ subst (λ k. Next call base level (act a rest) turns t k (slice_get (op.Action a ∷ ops (base + 1) level rest) k)) (sym s.0)
      (body_trace call rest, s.2, inr (0, refl, start call level rest turns count s.1 c.1))
  | inr s ↦
      let steps = ops (base + 1) level rest in
      let one : 1 + s.0 ≡ suc s.0 = omega arith in
      let same : 1 + s.0 ≡ at = omega (arith, s.1) in
      let found = later call base level (act a rest) rest 1 turns t s.0
      (λ k ts u x. let on : 1 + k ≡ suc k = omega arith in inr (k, on, x))
      (slice_get steps s.0) (next call (base + 1) level rest turns t s.0 count len c.1 s.2) in
      subst (λ k. Next call base level (act a rest) turns t k (slice_get (op.Action a ∷ steps) k)) same
      (subst (λ o. Next call base level (act a rest) turns t (1 + s.0) o) (sym (ap (slice_get (op.Action a ∷ steps)) one)) found)
]
next call base level (loop n b rest) turns t at count len c h =
    let whole = loop n b rest in
    let inner = ops base (level + 1) b in
    let tail = op.Edge n base level ∷ ops (base + length inner + 1) level rest in
    let long : length inner ≡ size b = length-ops base (level + 1) b in
    elim h [
      | inl s ↦
          let found = next call base (level + 1) b turns s.0 at count len c.1 s.2 in
          subst (λ v. Next call base level whole turns v at (slice_get (inner ++ tail) at)) (sym s.4)
          (elim (slice_get_cases inner at).1 [
            | inl f ↦ subst (λ o. Next call base level whole turns
                (followed s.0 (made mark.Edge (followed (times s.1 (followed (body_trace call b) (made mark.Edge finished))) (body_trace call rest)))) at o)
                (sym (slice_get-front inner tail at f.0 f.2))
                (inner_step call base level n b rest turns s.0 s.1 at len s.3 f.0 (subst (λ o. Next call base (level + 1) b turns s.0 at o) f.2 found))
            | inr g ↦
                let done = subst (λ o. Next call base (level + 1) b turns s.0 at o) g.1 found in
                let there : at ≡ length inner + 0 = omega (arith, g.0, long, within call (level + 1) b at turns s.0 s.2) in
                let is_at : at ≡ size b = omega (arith, there, long) in
                subst (λ o. Next call base level whole turns
                (followed s.0 (made mark.Edge (followed (times s.1 (followed (body_trace call b) (made mark.Edge finished))) (body_trace call rest)))) at o)
                (sym (ap (slice_get (inner ++ tail)) there ∙ slice_get-back inner tail 0))
                (edge_step call base level n b rest turns s.0 s.1 at count len c s.3 done.0 done.1 is_at)
          ])
      | inr s ↦
          let d = suc (size b) in
          let same : d + s.0 ≡ at = omega (arith, s.1) in
          let there : d + s.0 ≡ length inner + suc s.0 = omega (arith, long) in
          let from : base + length inner + 1 ≡ base + d = omega (arith, long) in
          let steps = ops (base + length inner + 1) level rest in
          let found = next call (base + length inner + 1) level rest turns t s.0 count len c.2 s.2 in
          let on = later call base level whole rest d turns t s.0
          (λ k ts u x. let e : d + k ≡ suc (size b + k) = omega arith in inr (k, e, x))
          (slice_get steps s.0) (subst (λ m. Next call m level rest turns t s.0 (slice_get steps s.0)) from found) in
          subst (λ k. Next call base level whole turns t k (slice_get (inner ++ tail) k)) same
          (subst (λ o. Next call base level whole turns t (d + s.0) o) (sym (ap (slice_get (inner ++ tail)) there ∙ slice_get-back inner tail (suc s.0))) on)
    ]
