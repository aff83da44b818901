-- Codes that are installed, replaced and freed one after the other.
use Rattle.std.proofs.Common.{◌≡◌, ◌∙◌, ◌+◌, ◌*◌, ℕ, suc, List, [], ◌∷◌, ◌++◌, Option, Some, None, length, length-append, inl, inr, refl, ap, sym, subst, append_assoc, slice_index, arith}
use Rattle.std.proofs.lemmas.List.{length-set}
use Rattle.std.specs.Prelude.{IfSome, IfNone}
use Rattle.stopped_threads.specs.Reclaiming.{IsReclaimed}
use Rattle.stopped_threads.specs.declared.faults.Reclaimed.{Reclaimed}
use Rattle.stopped_threads.specs.declared.faults.Reclaimed.TheVariants.{Freed, Used, Late}
use Rattle.desk.specs.Machine.{Stands}
use Rattle.desk.specs.declared.entries.Entry.TheVariants.{Free}
use Rattle.workers.specs.Replacing.{Codes, IsInstall, AreInstalls, InstallsEach, IsKept, IsKeptBy, Replaced, ReplacedFirst, ReplacedEach, CountsMore, WasLeft, IsLeft, AreFreed, FreesSome}

-- one more code behind the others
installs_more : (method : ℕ) (ss : List ℕ) (rs : List Stands) (s : ℕ) (r : Stands)
    → AreInstalls method ss rs → IsInstall (method + length ss) s r → AreInstalls method (ss ++ s ∷ []) (rs ++ r ∷ [])
installs_more method [] [] s r are is =
    let here : method + 0 ≡ method = omega arith in
    (subst (λ (m : ℕ). IsInstall m s r) here is, tt)
installs_more method [] (x ∷ rs) s r are is = absurd are
installs_more method (x ∷ ss) [] s r are is = absurd are
installs_more method (x ∷ ss) (y ∷ rs) s r (first, rest) is =
    let here : method + suc (length ss) ≡ suc method + length ss = omega arith in
    (first, installs_more (suc method) ss rs s r rest (subst (λ (m : ℕ). IsInstall m s r) here is))

-- the installs of all methods and of the next one, where these are the lists now
pub installs_next : (ss : List ℕ) (rs : List Stands) (s : ℕ) (r : Stands) (method : ℕ) (ss' : List ℕ) (rs' : List Stands)
    → length ss ≡ method → AreInstalls 0 ss rs → IsInstall method s r → ss' ≡ ss ++ s ∷ [] → rs' ≡ rs ++ r ∷ [] → AreInstalls 0 ss' rs'
installs_next ss rs s r method ss' rs' long are is more another =
    let here : method ≡ 0 + length ss = omega (arith, long) in
    subst (λ (xs : List ℕ). AreInstalls 0 xs rs') (sym more)
    (subst (λ (ys : List Stands). AreInstalls 0 (ss ++ s ∷ []) ys) (sym another)
    (installs_more 0 ss rs s r are (subst (λ (m : ℕ). IsInstall m s r) here is)))

-- one more of them is freed, or not
pub frees_none : (ss : List ℕ) (rs : List Stands) (s : ℕ) → WasLeft s → AreFreed ss rs → AreFreed (ss ++ s ∷ []) rs
frees_none [] rs s left none = inl (left, none)
frees_none (x ∷ ss) rs s left (inl (was, rest)) = inl (was, frees_none ss rs s left rest)
frees_none (x ∷ ss) rs s left (inr (r, more, is, freed, rest)) = inr (r, more, is, freed, frees_none ss more s left rest)

pub frees_one : (ss : List ℕ) (rs : List Stands) (s : ℕ) (r : Stands) → AreFreed ss rs → r.entry ≡ Free s → AreFreed (ss ++ s ∷ []) (rs ++ r ∷ [])
frees_one [] rs s r none freed = inr (r, [], ap (λ ts. ts ++ r ∷ []) none, freed, refl)
frees_one (x ∷ ss) rs s r (inl (was, rest)) freed = inl (was, frees_one ss rs s r rest freed)
frees_one (x ∷ ss) rs s r (inr (y, more, is, was, rest)) freed = inr (y, more ++ r ∷ [], ap (λ ts. ts ++ r ∷ []) is, was, frees_one ss more s r rest freed)

-- what reclaiming answers where it frees nothing
pub left_of : {N : Type 0} (places serial : ℕ) (r : Reclaimed N) → IsReclaimed places serial r → IsLeft r → WasLeft serial
left_of places serial (Freed x) is left = absurd left
left_of places serial (Used n w) is left = (places, is.before, is.looked, is.after, is.looks, inl (n, is.frees.0))
left_of places serial (Late place w) is left = (places, is.before, is.looked, is.after, is.looks, inr (place, is.frees.0))

-- what reclaiming leaves where it answers no receipt
pub left_unless : {A : Type 0} (N : Type 0) (places serial : ℕ) (said : Option A) → said ≡ None
    → IfNone said ((r : Reclaimed N) × IsReclaimed places serial r × IsLeft r) → WasLeft serial
left_unless {A} N places serial said is stays =
    let (r, was, left) = subst (λ (o : Option A). IfNone o ((r : Reclaimed N) × IsReclaimed places serial r × IsLeft r)) is stays in
    left_of {N = N} places serial r was left

-- one code that was replaced counts as one more
kept_counts : (serial : ℕ) (freed : List Stands) (left : List ℕ) (freed' : List Stands) (left' : List ℕ)
    → IsKept serial freed left freed' left' → length freed' + length left' ≡ length freed + length left + 1
kept_counts serial freed left freed' left' (inl (r, is, more, same)) =
    let long : length freed' ≡ length freed + 1 = ap length more ∙ length-append freed (r ∷ []) in
    let rest : length left' ≡ length left = ap length same in
    omega (arith, long, rest)
kept_counts serial freed left freed' left' (inr (was, same, more)) =
    let long : length left' ≡ length left + 1 = ap length more ∙ length-append left (serial ∷ []) in
    let rest : length freed' ≡ length freed = ap length same in
    omega (arith, long, rest)

-- a code is kept among what is freed and left, by whatever names these go
pub kept_from : (serial other : ℕ) (freed was : List Stands) (left had : List ℕ) (freed' : List Stands) (left' : List ℕ)
    → serial ≡ other → freed ≡ was → left ≡ had → IsKept serial freed left freed' left' → IsKept other was had freed' left'
kept_from serial other freed was left had freed' left' one is has (inl (r, free, more, same)) =
    inl (r, free ∙ ap (λ (n : ℕ). Free n) one, more ∙ ap (λ rs. rs ++ r ∷ []) is, same ∙ has)
kept_from serial other freed was left had freed' left' one is has (inr (held, same, more)) =
    inr (subst WasLeft one held, same ∙ is, more ∙ ap (λ ss. ss ++ serial ∷ []) has ∙ ap (λ (n : ℕ). had ++ n ∷ []) one)

-- by its receipt, where it is freed, and else by what reclaiming answers
pub kept_by : (N : Type 0) (places serial : ℕ) (said : Option Stands) (freed : List Stands) (left : List ℕ) (freed' : List Stands) (left' : List ℕ)
    → IfSome said (λ r. r.entry ≡ Free serial) → IfNone said ((r : Reclaimed N) × IsReclaimed places serial r × IsLeft r) → IsKeptBy serial said freed left freed' left' → IsKept serial freed left freed' left'
kept_by N places serial (Some r) freed left freed' left' free stays (more, same) = inl (r, free, more, same)
kept_by N places serial None freed left freed' left' free (r, is, stays) (same, more) = inr (left_of places serial r is stays, same, more)

counts_one : (method : ℕ) (old new : Codes) → Replaced method old new → CountsMore 1 old new
counts_one method old new (serial, r, install, in_use, installed, kept) = (
  ap length in_use ∙ length-set old.in_use method serial,
  ap length installed ∙ length-append old.installed (r ∷ []),
  kept_counts (slice_index old.in_use method) old.freed old.left new.freed new.left kept,
)

pub counts_more : (n method : ℕ) (old mid new : Codes) → CountsMore n old mid → Replaced method mid new → CountsMore (n + 1) old new
counts_more n method old mid new (uses, installs, keeps) replaced =
    let (one, another, kept) = counts_one method mid new replaced in
    (one ∙ uses, omega (arith, another, installs), omega (arith, kept, keeps))

-- the code of the next method is replaced
pub replaced_more : (method : ℕ) (old mid new : Codes) → ReplacedFirst method old mid → Replaced method mid new → ReplacedFirst (method + 1) old new
unfolding ReplacedFirst
replaced_more method old mid new first replaced =
    let one : suc method ≡ method + 1 = omega arith in
    subst (λ (n : ℕ). ReplacedFirst n old new) one (mid, first, replaced)

pub none_replaced : (old : Codes) → ReplacedFirst 0 old old
unfolding ReplacedFirst
none_replaced old = refl

-- a code that was left, behind others that were left, frees nothing
pub some_more : (ss : List ℕ) (s : ℕ) (old new : List Stands) → WasLeft s → FreesSome ss old new → FreesSome (ss ++ s ∷ []) old new
some_more ss s old new left (more, is, freed) = (more, is, frees_none ss more s left freed)

pub some_and_one : (ss : List ℕ) (s : ℕ) (old mid : List Stands) (r : Stands) → FreesSome ss old mid → r.entry ≡ Free s → FreesSome (ss ++ s ∷ []) old (mid ++ r ∷ [])
some_and_one ss s old mid r (more, is, freed) one = (more ++ r ∷ [], ap (λ rs. rs ++ r ∷ []) is ∙ append_assoc old more (r ∷ []), frees_one ss more s r freed one)

-- once the code of each method was replaced, two a method were installed, and as many are freed, left or in use
pub two_each : (methods : ℕ) (begun replaced : Codes) → InstallsEach methods begun → ReplacedEach begun replaced
    → (length replaced.installed ≡ 2 * methods) × (length replaced.freed + length replaced.left + length replaced.in_use ≡ 2 * methods)
two_each methods begun replaced (uses, installs, are, left, freed) (first, (same, more, kept)) =
    let none_left : length begun.left ≡ 0 = ap length left in
    let none_freed : length begun.freed ≡ 0 = ap length freed in
    (omega (arith, uses, installs, more), omega (arith, uses, same, kept, none_left, none_freed))
