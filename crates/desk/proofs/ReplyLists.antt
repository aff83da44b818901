-- The lists of replies and the history.
use Rattle.std.proofs.Common.{◌≡◌, ◌≢◌, ℕ, zero, suc, ◌+◌, ◌-◌, ◌<◌, ◌≤◌, List, drop, [], ◌∷◌, ◌++◌, Bool, true, false, cond, Option, Some, None, length, refl, sym, ap, ◌∙◌, arith, get_or, get_or-set_same, get_or-set_other}
use Rattle.std.proofs.lemmas.List.{append-nil, get_or-drop}
use Rattle.std.specs.Prelude.{◌==◌, slice_set}
use Rattle.std.proofs.lemmas.Bool.{eq-eqb, ne_eqb, eqb-true, eqb-false}
use Rattle.desk.specs.declared.entries.Entry.{Entry}
use Rattle.desk.specs.declared.entries.Entry.TheVariants.{Finish}
use Rattle.desk.specs.Once.{reply_in, with_reply, replies_of}
use Rattle.desk.specs.Replies.{Said, nothing_said, of_number, AreReplies, HasLess}

with_more : (o : Option (ℕ × ℕ)) (xs ys : List (ℕ × ℕ)) → with_reply o (xs ++ ys) ≡ with_reply o xs ++ ys
with_more None xs ys = refl
with_more (Some r) xs ys = refl

replies_push : (n : ℕ) (h : List Entry) (e : Entry) → replies_of n (h ++ e ∷ []) ≡ replies_of n h ++ with_reply (reply_in n e) []
replies_push n [] e = refl
replies_push n (x ∷ h) e = ap (with_reply (reply_in n x)) (replies_push n h e) ∙ with_more (reply_in n x) (replies_of n h) (with_reply (reply_in n e) [])

replies_same : (n : ℕ) (h : List Entry) (e : Entry) → reply_in n e ≡ None → replies_of n (h ++ e ∷ []) ≡ replies_of n h
replies_same n h e none = replies_push n h e ∙ ap (λ o. replies_of n h ++ with_reply o []) none ∙ append-nil (replies_of n h)

-- an entry without a reply
pub same_lists : (gone : ℕ) (h : List Entry) (lists : List Said) (e : Entry) → AreReplies gone h lists → ((n : ℕ) → reply_in n e ≡ None) → AreReplies gone (h ++ e ∷ []) lists
same_lists gone h lists e are none n low = are n low ∙ sym (replies_same n h e (none n))

get_said : (k : ℕ) (lists : List Said) (list : Said) → list.said ≡ [] → (get_or (lists ++ list ∷ []) k nothing_said).said ≡ (get_or lists k nothing_said).said
get_said zero [] list e = e
get_said (suc k) [] list e = refl
get_said zero (x ∷ xs) list e = refl
get_said (suc k) (x ∷ xs) list e = get_said k xs list e

-- one more operation without replies
pub more_lists : (gone : ℕ) (h : List Entry) (lists : List Said) (list : Said) (e : Entry) → AreReplies gone h lists → list.said ≡ [] → ((n : ℕ) → reply_in n e ≡ None) → AreReplies gone (h ++ e ∷ []) (lists ++ list ∷ [])
more_lists gone h lists list e are empty none n low = by (n - gone) ((n - gone) == 0) ∙ same_lists gone h lists e are none n low
  where
    by : (k : ℕ) (b : Bool) → (cond b nothing_said (get_or (lists ++ list ∷ []) (k - 1) nothing_said)).said ≡ (cond b nothing_said (get_or lists (k - 1) nothing_said)).said
    by k true = refl
    by k false = get_said (k - 1) lists list empty

-- the index of a number's list
pub at_here : (n : ℕ) (lists : List Said) (x : Said) → 0 < n → n - 1 < length lists → of_number n (slice_set lists (n - 1) x) ≡ x
at_here n lists x low is_in =
    ap (λ b. cond b nothing_said (get_or (slice_set lists (n - 1) x) (n - 1) nothing_said)) (ne_eqb n 0 (λ e. absurd (omega arith))) ∙ get_or-set_same lists (n - 1) x nothing_said is_in

pub at_other : (n m : ℕ) (lists : List Said) (x : Said) → 0 < m → n ≢ m → of_number n (slice_set lists (m - 1) x) ≡ of_number n lists
at_other n m lists x low ne = by (n == 0) refl
  where
    by : (b : Bool) → (n == 0) ≡ b → cond b nothing_said (get_or (slice_set lists (m - 1) x) (n - 1) nothing_said) ≡ cond b nothing_said (get_or lists (n - 1) nothing_said)
    by true e = refl
    by false e = let above = eqb-false n 0 e in get_or-set_other lists (m - 1) (n - 1) x nothing_said (λ same. ne (omega arith))

get_in : (k : ℕ) (lists : List Said) → 0 < (get_or lists k nothing_said).room → k < length lists
get_in k [] h = absurd (omega arith)
get_in zero (x ∷ xs) h = omega arith
get_in (suc k) (x ∷ xs) h = let r = get_in k xs h in omega arith

-- an operation with room has a list
pub in_lists : (n : ℕ) (lists : List Said) → 0 < (of_number n lists).room → (0 < n) × (n - 1 < length lists)
in_lists n lists h = by (n == 0) refl h
  where
    by : (b : Bool) → (n == 0) ≡ b → 0 < (cond b nothing_said (get_or lists (n - 1) nothing_said)).room → (0 < n) × (n - 1 < length lists)
    by true e h = absurd (omega arith)
    by false e h = let above = eqb-false n 0 e in (omega arith, get_in (n - 1) lists h)

-- the list read at the index
pub read_here : (n : ℕ) (lists : List Said) → 0 < n → of_number n lists ≡ get_or lists (n - 1) nothing_said
read_here n lists low = ap (λ b. cond b nothing_said (get_or lists (n - 1) nothing_said)) (ne_eqb n 0 (λ f. absurd (omega arith)))

finish_reply : (n op name reply : ℕ) → n ≡ op → reply_in n (Finish op name reply) ≡ Some (name, reply)
finish_reply n op name reply e = ap (λ b. cond b (Some (name, reply)) None) (eq-eqb op n (sym e))

no_reply : (n op name reply : ℕ) → n ≢ op → reply_in n (Finish op name reply) ≡ None
no_reply n op name reply ne = ap (λ b. cond b (Some (name, reply)) None) (ne_eqb op n (λ e. ne (sym e)))

-- a Finish with its reply
pub said_lists : (gone : ℕ) (h : List Entry) (lists : List Said) (x : Said) (op name reply : ℕ) → AreReplies gone h lists → 0 < op - gone → op - gone - 1 < length lists → x.said ≡ (of_number (op - gone) lists).said ++ (name, reply) ∷ []
    → AreReplies gone (h ++ Finish op name reply ∷ []) (slice_set lists (op - gone - 1) x)
said_lists gone h lists x op name reply are low is_in more n behind = by (n == op) refl
  where
    by : (b : Bool) → (n == op) ≡ b → (of_number (n - gone) (slice_set lists (op - gone - 1) x)).said ≡ replies_of n (h ++ Finish op name reply ∷ [])
    by true e =
        let same : n ≡ op = eqb-true n op e in
        ap (λ k. (of_number (k - gone) (slice_set lists (op - gone - 1) x)).said) same ∙ ap (λ (s : Said). s.said) (at_here (op - gone) lists x low is_in) ∙ more
        ∙ ap (λ k. (of_number (k - gone) lists).said ++ (name, reply) ∷ []) (sym same) ∙ ap (λ l. l ++ (name, reply) ∷ []) (are n behind)
        ∙ sym (replies_push n h (Finish op name reply) ∙ ap (λ o. replies_of n h ++ with_reply o []) (finish_reply n op name reply same))
    by false e =
        let ne = eqb-false n op e in
        ap (λ (s : Said). s.said) (at_other (n - gone) (op - gone) lists x low (λ same. ne (omega arith))) ∙ are n behind ∙ sym (replies_same n h (Finish op name reply) (no_reply n op name reply ne))

-- the operation has room for one reply less
pub less_room : (lists : List Said) (x : Said) (op : ℕ) → 0 < op → op - 1 < length lists → x.room + 1 ≡ (of_number op lists).room → HasLess op lists (slice_set lists (op - 1) x)
less_room lists x op low is_in less = record {
  here = ap (λ (s : Said). s.room + 1) (at_here op lists x low is_in) ∙ less;
  others = λ n ne. ap (λ (s : Said). s.room) (at_other n op lists x low ne);
}

-- the lists of the first operations are dropped
dropped : (n gone last : ℕ) (lists : List Said) → gone ≤ last → last < n → of_number (n - last) (drop (last - gone) lists) ≡ of_number (n - gone) lists
dropped n gone last lists more behind =
    let k : (last - gone) + (n - last - 1) ≡ n - gone - 1 = omega arith in
    read_here (n - last) (drop (last - gone) lists) (omega arith) ∙ get_or-drop (last - gone) lists (n - last - 1) nothing_said ∙ ap (λ m. get_or lists m nothing_said) k ∙ sym (read_here (n - gone) lists (omega arith))

pub forgotten_lists : (gone last : ℕ) (h h' : List Entry) (lists lists' : List Said) → AreReplies gone h lists → gone ≤ last → h' ≡ h → lists' ≡ drop (last - gone) lists → AreReplies last h' lists'
forgotten_lists gone last h h' lists lists' are more same is n behind =
    ap (λ l. (of_number (n - last) l).said) is ∙ ap (λ (s : Said). s.said) (dropped n gone last lists more behind) ∙ are n (omega arith) ∙ ap (replies_of n) (sym same)

pub forgotten_rooms : (n gone last : ℕ) (lists lists' : List Said) → gone ≤ last → last < n → lists' ≡ drop (last - gone) lists → (of_number (n - last) lists').room ≡ (of_number (n - gone) lists).room
forgotten_rooms n gone last lists lists' more behind is = ap (λ l. (of_number (n - last) l).room) is ∙ ap (λ (s : Said). s.room) (dropped n gone last lists more behind)
