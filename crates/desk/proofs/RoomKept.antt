-- The room that is reserved for replies.
use Rattle.std.proofs.Common.{◌≡◌, ◌≢◌, ℕ, zero, suc, ◌+◌, ◌-◌, ◌<◌, ◌≤◌, List, [], ◌∷◌, ◌++◌, Bool, true, false, cond, Some, length, refl, sym, ap, ◌∙◌, subst, arith, get_or, length-append}
use Rattle.std.specs.Prelude.{◌==◌}
use Rattle.std.proofs.lemmas.Bool.{eq-eqb, ne_eqb, eqb-true, eqb-false}
use Rattle.operations.specs.Names.{among}
use Rattle.desk.specs.Machine.{Asked, Current, Gone, targets_of, open_of, at_number, without_number, finished, as_operated}
use Rattle.desk.specs.Replies.{Said, nothing_said, of_number, HasLess, owed_waiting, owed_opened, HaveRoom}
use Rattle.desk.proofs.Fewer.{filter_less}
use Rattle.desk.proofs.ReplyLists.{in_lists}

pub same_room : {gone gone' : Gone} {num : ℕ} {q : List Asked} {cs : List Current} {lists lists' : List Said} → HaveRoom gone num q cs lists → lists' ≡ lists → gone' ≡ gone → HaveRoom gone' num q cs lists'
same_room {gone = gone} {num = num} {q = q} {cs = cs} {lists' = lists'} have is same = subst (λ (g : Gone). HaveRoom g num q cs lists') (sym same) (subst (HaveRoom gone num q cs) (sym is) have)

-- the count if the number is this one, otherwise 0
abbrev count_of : ℕ → ℕ → ℕ → ℕ
count_of n number count = cond {A = ℕ} (number == n) count 0

count_here : (n number count : ℕ) → number ≡ n → count_of n number count ≡ count
count_here n number count e = ap (λ b. cond {A = ℕ} b count 0) (eq-eqb number n e)

count_there : (n number count : ℕ) → number ≢ n → count_of n number count ≡ 0
count_there n number count ne = ap (λ b. cond {A = ℕ} b count 0) (ne_eqb number n ne)

count_less : (n number more less : ℕ) → less ≤ more → count_of n number less ≤ count_of n number more
count_less n number more less h = by (number == n)
  where
    by : (b : Bool) → cond {A = ℕ} b less 0 ≤ cond {A = ℕ} b more 0
    by true = h
    by false = omega arith

waiting_push : (n : ℕ) (q : List Asked) (a : Asked) → owed_waiting n (q ++ a ∷ []) ≡ owed_waiting n q + count_of n a.number (length (targets_of a.request))
waiting_push n [] a = omega arith
waiting_push n (x ∷ q) a = let r = waiting_push n q a in omega arith

opened_push : (n : ℕ) (cs : List Current) (c : Current) → owed_opened n (cs ++ c ∷ []) ≡ owed_opened n cs + count_of n c.number (length c.due)
opened_push n [] c = omega arith
opened_push n (x ∷ cs) c = let r = opened_push n cs c in omega arith

get_past : (k : ℕ) (lists : List Said) (x : Said) → k ≢ length lists → get_or (lists ++ x ∷ []) k nothing_said ≡ get_or lists k nothing_said
get_past zero [] x ne = absurd (ne refl)
get_past (suc k) [] x ne = refl
get_past zero (y ∷ ys) x ne = refl
get_past (suc k) (y ∷ ys) x ne = get_past k ys x (λ e. ne (ap suc e))

get_last : (k : ℕ) (lists : List Said) (x : Said) → k ≡ length lists → (get_or (lists ++ x ∷ []) k nothing_said ≡ x) × (get_or lists k nothing_said ≡ nothing_said)
get_last zero [] x e = (refl, refl)
get_last (suc k) [] x e = absurd (omega arith)
get_last zero (y ∷ ys) x e = absurd (omega arith)
get_last (suc k) (y ∷ ys) x e = get_last k ys x (omega arith)

pub ask_room : {gone : Gone} (num : ℕ) (q q' : List Asked) (cs : List Current) (a : Asked) (lists lists' : List Said) (x : Said)
    → HaveRoom gone num q cs lists → q' ≡ q ++ a ∷ [] → a.number ≡ num → length (targets_of a.request) ≤ x.room → lists' ≡ lists ++ x ∷ [] → HaveRoom gone (num + 1) q' cs lists'
ask_room {gone = gone} num q q' cs a lists lists' x have is number enough lists_is = subst (λ l. HaveRoom gone (num + 1) l cs lists') (sym is) (subst (HaveRoom gone (num + 1) (q ++ a ∷ []) cs) (sym lists_is) (record {
  count = (let l = length-append lists (x ∷ []) in let z = have.count in omega arith);
  enough = λ n. by n (n == num) refl;
}))
  where
    by : (n : ℕ) (b : Bool) → (n == num) ≡ b → owed_waiting n (q ++ a ∷ []) + owed_opened n cs ≤ (of_number (n - gone.operations) (lists ++ x ∷ [])).room
    by n true e =
        let here : n ≡ num = eqb-true n num e in
        let z = have.count in
        let k = n - gone.operations in
        let some : (k == 0) ≡ false = ne_eqb k 0 (λ f. absurd (omega arith)) in
        let got = get_last (k - 1) lists x (omega arith) in
        let new : of_number k (lists ++ x ∷ []) ≡ x = ap (λ b. cond b nothing_said (get_or (lists ++ x ∷ []) (k - 1) nothing_said)) some ∙ got.0 in
        let old : of_number k lists ≡ nothing_said = ap (λ b. cond b nothing_said (get_or lists (k - 1) nothing_said)) some ∙ got.1 in
        let new_room : (of_number k (lists ++ x ∷ [])).room ≡ x.room = ap (λ (s : Said). s.room) new in
        let old_room : (of_number k lists).room ≡ 0 = ap (λ (s : Said). s.room) old in
        let p = waiting_push n q a in
        let c = count_here n a.number (length (targets_of a.request)) (number ∙ sym here) in
        let o = have.enough n in omega arith
    by n false e =
        let ne = eqb-false n num e in
        let z = have.count in
        let p = waiting_push n q a in
        let c = count_there n a.number (length (targets_of a.request)) (λ f. ne (sym f ∙ number)) in
        let o = have.enough n in
        let same = room_past (n - gone.operations) ((n - gone.operations) == 0) refl (λ f g. ne (omega arith)) in omega arith
      where
        room_past : (n : ℕ) (b : Bool) → (n == 0) ≡ b → (n ≢ 0 → n - 1 ≢ length lists)
            → (cond b nothing_said (get_or (lists ++ x ∷ []) (n - 1) nothing_said)).room ≡ (cond b nothing_said (get_or lists (n - 1) nothing_said)).room
        room_past n true e ne = refl
        room_past n false e ne = ap (λ (s : Said). s.room) (get_past (n - 1) lists x (ne (eqb-false n 0 e)))

pub open_room : {gone : Gone} (num : ℕ) (q q' : List Asked) (cs cs' : List Current) (a : Asked) (c : Current) (lists : List Said)
    → HaveRoom gone num q cs lists → q ≡ a ∷ q' → cs' ≡ cs ++ c ∷ [] → c.number ≡ a.number → length c.due ≤ length (targets_of a.request) → HaveRoom gone num q' cs' lists
open_room {gone = gone} num q q' cs cs' a c lists have is opened number fewer = record {
  count = have.count;
  enough = λ n. (
      let o = have.enough n in
      let w : owed_waiting n q ≡ count_of n a.number (length (targets_of a.request)) + owed_waiting n q' = ap (owed_waiting n) is in
      let p : owed_opened n cs' ≡ owed_opened n cs + count_of n c.number (length c.due) = ap (owed_opened n) opened ∙ opened_push n cs c in
      let same : count_of n c.number (length c.due) ≡ count_of n a.number (length c.due) = ap (λ m. count_of n m (length c.due)) number in
      let less = count_less n a.number (length (targets_of a.request)) (length c.due) fewer in omega arith
      );
}

-- the replies owed by the open request with this number, after a change of it
owed_at : (f : Current → Current) (n m : ℕ) (cs : List Current) (c : Current) → open_of m cs ≡ Some c → ((d : Current) → (f d).number ≡ d.number)
    → owed_opened n (at_number f m cs) + count_of n c.number (length c.due) ≡ owed_opened n cs + count_of n c.number (length (f c).due)
owed_at f n m [] c h keeps = cc
owed_at f n m (x ∷ cs) c h keeps = by (x.number == m) h (λ k. owed_at f n m cs c k keeps)
  where
    by : (b : Bool) → cond b (Some x) (open_of m cs) ≡ Some c → (open_of m cs ≡ Some c → owed_opened n (at_number f m cs) + count_of n c.number (length c.due) ≡ owed_opened n cs + count_of n c.number (length (f c).due))
        → owed_opened n (cond b (f x ∷ cs) (x ∷ at_number f m cs)) + count_of n c.number (length c.due) ≡ owed_opened n (x ∷ cs) + count_of n c.number (length (f c).due)
    by true h rest =
        let same : x ≡ c = cc in
        let a = ap (λ (z : Current). count_of n z.number (length z.due)) same in
        let b = ap (λ (z : Current). count_of n (f z).number (length (f z).due)) same in
        let d = ap (λ k. count_of n k (length (f c).due)) (keeps c) in omega arith
    by false h rest = let r = rest h in omega arith

number_of : (n : ℕ) (cs : List Current) (c : Current) → open_of n cs ≡ Some c → c.number ≡ n
number_of n [] c h = cc
number_of n (x ∷ cs) c h = by (x.number == n) refl h (number_of n cs c)
  where
    by : (b : Bool) → (x.number == n) ≡ b → cond b (Some x) (open_of n cs) ≡ Some c → (open_of n cs ≡ Some c → c.number ≡ n) → c.number ≡ n
    by true e h rest = let same : x ≡ c = cc in ap (λ (z : Current). z.number) (sym same) ∙ eqb-true x.number n e
    by false e h rest = rest h

owed_one : (n : ℕ) (cs : List Current) (c : Current) → open_of n cs ≡ Some c → length c.due ≤ owed_opened n cs
owed_one n [] c h = cc
owed_one n (x ∷ cs) c h = by (x.number == n) refl h (owed_one n cs c)
  where
    by : (b : Bool) → (x.number == n) ≡ b → cond b (Some x) (open_of n cs) ≡ Some c → (open_of n cs ≡ Some c → length c.due ≤ owed_opened n cs) → length c.due ≤ cond {A = ℕ} b (length x.due) 0 + owed_opened n cs
    by true e h rest = let same : x ≡ c = cc in let a = ap (λ (z : Current). length z.due) same in omega arith
    by false e h rest = let r = rest h in omega arith

-- room is reserved for the reply of a due target
pub due_room : {gone : Gone} (num n name : ℕ) (q : List Asked) (cs : List Current) (c : Current) (lists : List Said)
    → HaveRoom gone num q cs lists → open_of n cs ≡ Some c → among name c.due ≡ true → 0 < (of_number (n - gone.operations) lists).room
due_room {gone = gone} num n name q cs c lists have found due =
    let o = have.enough n in let a = owed_one n cs c found in let l = filter_less (λ (x : ℕ). x == name) c.due due in omega arith

pub finish_room : {gone : Gone} (num n name : ℕ) (q : List Asked) (cs cs' : List Current) (c : Current) (lists lists' : List Said)
    → HaveRoom gone num q cs lists → open_of n cs ≡ Some c → among name c.due ≡ true → cs' ≡ at_number (finished name) n cs → length lists' ≡ length lists → HasLess (n - gone.operations) lists lists' → HaveRoom gone num q cs' lists'
finish_room {gone = gone} num n name q cs cs' c lists lists' have found due is same less = subst (λ l. HaveRoom gone num q l lists') (sym is) (record {
  count = (let z = have.count in omega arith);
  enough = λ m. by m (m == n) refl;
})
  where
    by : (m : ℕ) (b : Bool) → (m == n) ≡ b → owed_waiting m q + owed_opened m (at_number (finished name) n cs) ≤ (of_number (m - gone.operations) lists').room
    by m true e =
        let here : m ≡ n = eqb-true m n e in
        let at = owed_at (finished name) m n cs c found (λ d. refl) in
        let l = filter_less (λ (x : ℕ). x == name) c.due due in
        let number = number_of n cs c found ∙ sym here in
        let before = count_here m c.number (length c.due) number in
        let later = count_here m c.number (length (finished name c).due) number in
        let o = have.enough m in
        let r : (of_number (m - gone.operations) lists').room + 1 ≡ (of_number (m - gone.operations) lists).room = subst (λ k. (of_number (k - gone.operations) lists').room + 1 ≡ (of_number (k - gone.operations) lists).room) (sym here) less.here in omega arith
    by m false e =
        let ne = eqb-false m n e in
        let at = owed_at (finished name) m n cs c found (λ d. refl) in
        let other : c.number ≢ m = λ f. ne (sym f ∙ number_of n cs c found) in
        let before = count_there m c.number (length c.due) other in
        let later = count_there m c.number (length (finished name c).due) other in
        let o = have.enough m in
        let behind = (in_lists (n - gone.operations) lists (let h = less.here in omega arith)).0 in
        let r = less.others (m - gone.operations) (λ f. ne (omega arith)) in omega arith

pub operate_room : {gone : Gone} (num n : ℕ) (q : List Asked) (cs cs' : List Current) (c : Current) (lists : List Said)
    → HaveRoom gone num q cs lists → open_of n cs ≡ Some c → cs' ≡ at_number as_operated n cs → HaveRoom gone num q cs' lists
operate_room {gone = gone} num n q cs cs' c lists have found is = subst (λ l. HaveRoom gone num q l lists) (sym is) (record {
  count = have.count;
  enough = λ m. (let at = owed_at as_operated m n cs c found (λ d. refl) in let o = have.enough m in omega arith);
})

owed_without : (n m : ℕ) (cs : List Current) → owed_opened n (without_number m cs) ≤ owed_opened n cs
owed_without n m [] = omega arith
owed_without n m (x ∷ cs) = by (x.number == m) (owed_without n m cs)
  where
    by : (b : Bool) → owed_opened n (without_number m cs) ≤ owed_opened n cs → owed_opened n (cond b cs (x ∷ without_number m cs)) ≤ owed_opened n (x ∷ cs)
    by true rest = omega arith
    by false rest = omega arith

pub close_room : {gone : Gone} (num m : ℕ) (q : List Asked) (cs cs' : List Current) (lists : List Said) → HaveRoom gone num q cs lists → cs' ≡ without_number m cs → HaveRoom gone num q cs' lists
close_room {gone = gone} num m q cs cs' lists have is = record {
  count = have.count;
  enough = λ n. (let o = have.enough n in let a = ap (owed_opened n) is in let l = owed_without n m cs in omega arith);
}
