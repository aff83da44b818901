-- The jobs left of open requests.
use Rattle.std.proofs.Common.{◌≡◌, ◌≢◌, ℕ, zero, suc, ◌+◌, ◌<◌, List, [], ◌∷◌, true, false, cond, Some, None, length, map, refl, sym, ap, ◌∙◌, subst, arith}
use Rattle.std.specs.Prelude.{◌&&◌, ◌||◌, ◌==◌, Option, IfSome, IfNone, OnSome, slice_get, slice_set}
use Rattle.std.specs.List.{remove}
use Rattle.std.proofs.lemmas.Bool.{eq-eqb, ne_eqb, eqb-true, and_parts}
use mathlib.Core.Logic.{dite}
use native.Mathlib.Decide.{ℕ_discrete}
use Rattle.desk.proofs.Newest.{same_at}
use Rattle.operations.specs.declared.Ask.{Ask}
use Rattle.operations.specs.declared.Request.{Request}
use Rattle.operations.specs.declared.Request.TheVariants.{Handshake, Census}
use Rattle.operations.specs.Names.{among}
use Rattle.desk.specs.declared.entries.Opened.{Opened}
use Rattle.desk.specs.Machine.{targets_of}
use Rattle.desk.specs.Fields.{current_of, names_left, jobs_left, IsIndex}
use Rattle.desk.proofs.OpenLists.{later}
use Rattle.desk.specs.JobsFit.{same_ask, are_for, jobs_fit, without_first, left_of, job_taken, jobs_closed}

-- jobs that fit a request are for its targets
fit_for : {J : Type 0} (whom : J → ℕ) (asks : J → Ask) (targets : List ℕ) (ask : Ask) (jobs : List J) → are_for whom asks targets ask jobs ≡ true → map whom jobs ≡ targets
fit_for whom asks [] ask [] h = refl
fit_for whom asks [] ask (j ∷ js) h = let none = eqb-true (suc (length js)) 0 h in absurd (omega arith)
fit_for whom asks (t ∷ ts) ask [] h = cc
fit_for whom asks (t ∷ ts) ask (j ∷ js) h =
    let p = and_parts ((whom j == t) && same_ask (asks j) ask) (are_for whom asks ts ask js) h in
    let q = and_parts (whom j == t) (same_ask (asks j) ask) p.0 in
    ap (λ n. n ∷ map whom js) (eqb-true (whom j) t q.0) ∙ ap (λ ns. t ∷ ns) (fit_for whom asks ts ask js p.1)

pub fitting : {J : Type 0} (whom : J → ℕ) (asks : J → Ask) (request : Request) (jobs : List J) → jobs_fit whom asks request jobs ≡ true → map whom jobs ≡ targets_of request
fitting whom asks Census [] h = refl
fitting whom asks Census (j ∷ js) h = let none = eqb-true (suc (length js)) 0 h in absurd (omega arith)
fitting whom asks (Handshake targets ask) jobs h = fit_for whom asks targets ask jobs h

-- the first job of the name is removed
pub first_taken : {J : Type 0} (whom : J → ℕ) (name i : ℕ) (jobs : List J) (j : J) → ((k : ℕ) (x : J) → k < i → slice_get jobs k ≡ Some x → whom x ≢ name) → slice_get jobs i ≡ Some j → whom j ≡ name
    → (map whom (remove jobs i) ≡ without_first name (map whom jobs)) × (among name (map whom jobs) ≡ true)
first_taken whom name i [] j none here is = cc
first_taken whom name zero (x ∷ xs) j none here is =
    let same : x ≡ j = cc in
    let e : (whom x == name) ≡ true = eq-eqb (whom x) name (ap whom same ∙ is) in
    (ap (λ b. cond b (map whom xs) (whom x ∷ without_first name (map whom xs))) (sym e), ap (λ b. b || among name (map whom xs)) e)
first_taken whom name (suc i) (x ∷ xs) j none here is =
    let ne : (whom x == name) ≡ false = ne_eqb (whom x) name (none 0 x (omega arith) refl) in
    let r = first_taken whom name i xs j (λ k y l h. none (suc k) y (omega arith) h) here is in
    (ap (λ ns. whom x ∷ ns) r.0 ∙ sym (ap (λ b. cond b (map whom xs) (whom x ∷ without_first name (map whom xs))) ne), ap (λ b. b || among name (map whom xs)) ne ∙ r.1)

-- one more job isn't of the name
pub next_not : {J : Type 0} (whom : J → ℕ) (name i : ℕ) (jobs : List J) (x : J) → ((k : ℕ) (j : J) → k < i → slice_get jobs k ≡ Some j → whom j ≢ name) → slice_get jobs i ≡ Some x → whom x ≢ name
    → (k : ℕ) (j : J) → k < i + 1 → slice_get jobs k ≡ Some j → whom j ≢ name
next_not whom name i jobs x none here ne k j low there is =
    dite (ℕ_discrete k i)
    (λ e. ne (ap whom (same_at jobs i x j here (subst (λ n. slice_get jobs n ≡ Some j) e there)) ∙ is))
    (λ other. none k j (omega arith) there is)

-- no job is of the name
pub none_taken : {J : Type 0} (whom : J → ℕ) (name : ℕ) (jobs : List J) → ((k : ℕ) (x : J) → k < length jobs → slice_get jobs k ≡ Some x → whom x ≢ name)
    → (map whom jobs ≡ without_first name (map whom jobs)) × (among name (map whom jobs) ≡ false)
none_taken whom name [] none = (refl, refl)
none_taken whom name (x ∷ xs) none =
    let ne : (whom x == name) ≡ false = ne_eqb (whom x) name (none 0 x (omega arith) refl) in
    let r = none_taken whom name xs (λ k y l h. none (suc k) y (omega arith) h) in
    (ap (λ ns. whom x ∷ ns) r.0 ∙ sym (ap (λ b. cond b (map whom xs) (whom x ∷ without_first name (map whom xs))) ne), ap (λ b. b || among name (map whom xs)) ne ∙ r.1)

-- an open request changes, and its jobs are unchanged
pub set_left : {J : Type 0} (whom : J → ℕ) (i : ℕ) (os : List (Opened J)) (o o' : Opened J) → slice_get os i ≡ Some o → o'.jobs ≡ o.jobs → o'.number ≡ o.number
    → map (jobs_left whom) (slice_set os i o') ≡ map (jobs_left whom) os
set_left whom i [] o o' here same number = cc
set_left whom zero (x ∷ os) o o' here same number =
    let is : o ≡ x = cc in
    λ k. record { number = (number ∙ ap (λ (z : Opened _). z.number) is) k; names = map whom ((same ∙ ap (λ (z : Opened _). z.jobs) is) k).items } ∷ map (jobs_left whom) os
set_left whom (suc i) (x ∷ os) o o' here same number = ap (λ l. jobs_left whom x ∷ l) (set_left whom i os o o' here same number)

-- the jobs left of the open request at an index
pub left_at : {J : Type 0} (whom : J → ℕ) (n i : ℕ) (os : List (Opened J)) (o : Opened J) → IsIndex n os (Some i) → slice_get os i ≡ Some o → left_of n (map (jobs_left whom) os) ≡ names_left whom o
left_at whom n i [] o is h = cc
left_at whom n zero (x ∷ os) o is h =
    let same : x ≡ o = cc in
    ap (λ b. cond b (names_left whom x) (left_of n (map (jobs_left whom) os))) (eq-eqb x.number n (is.2 x refl)) ∙ ap (names_left whom) same
left_at whom n (suc i) (x ∷ os) o is h =
    ap (λ b. cond b (names_left whom x) (left_of n (map (jobs_left whom) os))) (ne_eqb x.number n (is.1 0 x (omega arith) refl)) ∙ left_at whom n i os o (later n i x os is) h

-- no open request has this number
pub left_not : {J : Type 0} (whom : J → ℕ) (n : ℕ) (os : List (Opened J)) → IsIndex n os None → left_of n (map (jobs_left whom) os) ≡ []
left_not whom n [] is = refl
left_not whom n (x ∷ os) is =
    ap (λ b. cond b (names_left whom x) (left_of n (map (jobs_left whom) os))) (ne_eqb x.number n (is 0 x refl)) ∙ left_not whom n os (λ k o h. is (suc k) o h)

pub taken_not : {J : Type 0} (whom : J → ℕ) (n name : ℕ) (os : List (Opened J)) → IsIndex n os None → job_taken n name (map (jobs_left whom) os) ≡ map (jobs_left whom) os
taken_not whom n name [] is = refl
taken_not whom n name (x ∷ os) is =
    let js = map (jobs_left whom) os in
    ap (λ b. cond b (record { number = x.number; names = without_first name (names_left whom x) } ∷ js) (jobs_left whom x ∷ job_taken n name js)) (ne_eqb x.number n (is 0 x refl))
    ∙ ap (λ l. jobs_left whom x ∷ l) (taken_not whom n name os (λ k o h. is (suc k) o h))

-- a job of the open request at an index is removed
pub taken_at : {J : Type 0} (whom : J → ℕ) (n name i : ℕ) (os : List (Opened J)) (o o' : Opened J) → IsIndex n os (Some i) → slice_get os i ≡ Some o → o'.number ≡ o.number → names_left whom o' ≡ without_first name (names_left whom o)
    → map (jobs_left whom) (slice_set os i o') ≡ job_taken n name (map (jobs_left whom) os)
taken_at whom n name i [] o o' is h number e = cc
taken_at whom n name zero (x ∷ os) o o' is h number e =
    let same : o ≡ x = cc in
    let js = map (jobs_left whom) os in
    (λ k. record { number = (number ∙ ap (λ (z : Opened _). z.number) same) k; names = (e ∙ ap (λ (z : Opened _). without_first name (names_left whom z)) same) k } ∷ js)
    ∙ sym (ap (λ b. cond b (record { number = x.number; names = without_first name (names_left whom x) } ∷ js) (jobs_left whom x ∷ job_taken n name js)) (eq-eqb x.number n (is.2 x refl)))
taken_at whom n name (suc i) (x ∷ os) o o' is h number e =
    let js = map (jobs_left whom) os in
    ap (λ l. jobs_left whom x ∷ l) (taken_at whom n name i os o o' (later n i x os is) h number e)
    ∙ sym (ap (λ b. cond b (record { number = x.number; names = without_first name (names_left whom x) } ∷ js) (jobs_left whom x ∷ job_taken n name js)) (ne_eqb x.number n (is.1 0 x (omega arith) refl)))

-- nothing else of the open requests changes
pub set_same : {J : Type 0} (i : ℕ) (os : List (Opened J)) (o o' : Opened J) → slice_get os i ≡ Some o → current_of o' ≡ current_of o → map current_of (slice_set os i o') ≡ map current_of os
set_same i [] o o' h e = cc
set_same zero (x ∷ os) o o' h e = let same : o ≡ x = cc in ap (λ c. c ∷ map current_of os) (e ∙ ap current_of same)
set_same (suc i) (x ∷ os) o o' h e = ap (λ l. current_of x ∷ l) (set_same i os o o' h e)

-- the open request at an index is removed
pub closed_at : {J : Type 0} (whom : J → ℕ) (n i : ℕ) (os : List (Opened J)) → IsIndex n os (Some i) → map (jobs_left whom) (remove os i) ≡ jobs_closed n (map (jobs_left whom) os)
closed_at whom n i [] is = absurd (let a = is.0 in omega arith)
closed_at whom n zero (x ∷ os) is = sym (ap (λ b. cond b (map (jobs_left whom) os) (jobs_left whom x ∷ jobs_closed n (map (jobs_left whom) os))) (eq-eqb x.number n (is.2 x refl)))
closed_at whom n (suc i) (x ∷ os) is =
    ap (λ l. jobs_left whom x ∷ l) (closed_at whom n i os (later n i x os is))
    ∙ sym (ap (λ b. cond b (map (jobs_left whom) os) (jobs_left whom x ∷ jobs_closed n (map (jobs_left whom) os))) (ne_eqb x.number n (is.1 0 x (omega arith) refl)))

-- a fact of a result follows from another
pub some_also : {A : Type 0} (P Q : A → Type 0) (r : Option A) → ((a : A) → P a → Q a) → IfSome r P → IfSome r Q
some_also P Q None f h = tt
some_also P Q (Some a) f h = f a h

pub some_then : {A P Q : Type 0} (r : Option A) → (P → Q) → OnSome r P → OnSome r Q
some_then None f h = tt
some_then (Some a) f h = f h

pub some_has : {A Q : Type 0} (r : Option A) → Q → OnSome r Q
some_has None q = tt
some_has (Some a) q = q

pub none_then : {A P Q : Type 0} (r : Option A) → (P → Q) → IfNone r P → IfNone r Q
none_then None f h = f h
none_then (Some a) f h = tt
