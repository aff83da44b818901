-- After a legal history the live names rise.
use Rattle.std.proofs.Common.{◌≡◌, ℕ, ◌+◌, ◌<◌, ◌≤◌, List, [], ◌∷◌, ◌++◌, Bool, true, false, not, refl, sym, subst, arith}
use Rattle.std.specs.Prelude.{◌&&◌, ◌==◌, filter, cond}
use Rattle.std.proofs.lemmas.Bool.Decides.{nat_tests}
use Rattle.std.proofs.lemmas.List.{map-append}
use Rattle.desk.specs.declared.entries.Entry.{Entry}
use Rattle.desk.specs.declared.entries.Entry.TheVariants.{Start, Exit, Ask, Open, Finish, Operate, Close, Install, Invalidate, Retire, Free}
use Rattle.desk.specs.declared.entries.Live.{Live}
use Rattle.desk.specs.Machine.{State, step, lawful, start, after_from, legal_from, after, is_legal, names_of}
use Rattle.desk.specs.Rising.{AreRising, LiveNamesRise}

abbrev pub AllBelow : ℕ → List ℕ → Type 0
AllBelow next [] = Unit {0}
AllBelow next (n ∷ ns) = (n < next) × AllBelow next ns

record Named (next : ℕ) (ls : List Live) : Type 0 where
  rising : AreRising 0 (names_of ls)
  below : AllBelow next (names_of ls)

pub and_true : (a b : Bool) → (a && b) ≡ true → (a ≡ true) × (b ≡ true)
and_true true b e = (refl, e)
and_true false b e = cc

pub same : (a b : ℕ) → (a == b) ≡ true → a ≡ b
same a b e = grind (arith, nat_tests)

pub rising_push : (least n : ℕ) (ns : List ℕ) → AreRising least ns → AllBelow n ns → least ≤ n → AreRising least (ns ++ n ∷ [])
rising_push least n [] r b low = (low, tt)
rising_push least n (x ∷ ns) r b low = (r.0, rising_push (x + 1) n ns r.1 b.1 (let k = b.0 in omega arith))

pub below_push : (n : ℕ) (ns : List ℕ) → AllBelow n ns → AllBelow (n + 1) (ns ++ n ∷ [])
below_push n [] b = (omega arith, tt)
below_push n (x ∷ ns) b = ((let k = b.0 in omega arith), below_push n ns b.1)

pub rising_from : (a b : ℕ) (ns : List ℕ) → a ≤ b → AreRising b ns → AreRising a ns
rising_from a b [] le r = tt
rising_from a b (x ∷ ns) le r = ((let k = r.0 in omega arith), r.1)

rising_less : (p : Live → Bool) (least : ℕ) (ls : List Live) → AreRising least (names_of ls) → AreRising least (names_of (filter p ls))
rising_less p least [] r = tt
rising_less p least (l ∷ ls) r = by (p l) (rising_less p (l.name + 1) ls r.1)
  where
    by : (b : Bool) → AreRising (l.name + 1) (names_of (filter p ls)) → AreRising least (names_of (cond b (l ∷ filter p ls) (filter p ls)))
    by true rest = (r.0, rest)
    by false rest = rising_from least (l.name + 1) (names_of (filter p ls)) (let k = r.0 in omega arith) rest

below_less : (p : Live → Bool) (next : ℕ) (ls : List Live) → AllBelow next (names_of ls) → AllBelow next (names_of (filter p ls))
below_less p next [] b = tt
below_less p next (l ∷ ls) b = by (p l) (below_less p next ls b.1)
  where
    by : (x : Bool) → AllBelow next (names_of (filter p ls)) → AllBelow next (names_of (cond x (l ∷ filter p ls) (filter p ls)))
    by true rest = (b.0, rest)
    by false rest = rest

named_push : (next place : ℕ) (ls : List Live) → Named next ls → Named (next + 1) (ls ++ record { name = next; place = place } ∷ [])
named_push next place ls k =
    let is : names_of (ls ++ record { name = next; place = place } ∷ []) ≡ names_of ls ++ next ∷ [] = map-append (λ (l : Live). l.name) ls (record { name = next; place = place } ∷ []) in
    record {
      rising = subst (AreRising 0) (sym is) (rising_push 0 next (names_of ls) k.rising k.below (omega arith));
      below = subst (AllBelow (next + 1)) (sym is) (below_push next (names_of ls) k.below);
    }

named_step : (s : State) (e : Entry) → lawful s e ≡ true → Named s.next_name s.live → let t = step s e in Named t.next_name t.live
named_step s (Start name place) l k =
    let is : name ≡ s.next_name = same name s.next_name (and_true _ _ l).0 in
    subst (λ (n : ℕ). Named (s.next_name + 1) (s.live ++ record { name = n; place = place } ∷ [])) (sym is) (named_push s.next_name place s.live k)
named_step s (Exit name) l k = record { rising = rising_less (λ (x : Live). not (x.name == name)) 0 s.live k.rising; below = below_less (λ (x : Live). not (x.name == name)) s.next_name s.live k.below }
named_step s (Ask m r) l k = k
named_step s (Open m) l k = k
named_step s (Finish m who reply) l k = k
named_step s (Operate m) l k = k
named_step s (Close m) l k = k
named_step s (Install a b) l k = k
named_step s (Invalidate a) l k = k
named_step s (Retire a) l k = k
named_step s (Free a) l k = k

named_after : (s : State) (es : List Entry) → legal_from s es ≡ true → Named s.next_name s.live → let t = after_from s es in Named t.next_name t.live
named_after s [] l k = k
named_after s (e ∷ es) l k = let p = and_true _ _ l in named_after (step s e) es p.1 (named_step s e p.0 k)

pub live_names_rise : LiveNamesRise
unfolding is_legal after
live_names_rise slots methods h l = (named_after (start slots methods) h l (record { rising = tt; below = tt })).rising
