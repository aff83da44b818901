-- Bytes that are held, and bytes that are written.
use Rattle.std.proofs.Common.{◌≡◌, ◌≢◌, ℕ, ◌+◌, ◌-◌, ◌<◌, ◌≤◌, ◌∙◌, sym, Bool, true, false, List, [], ◌∷◌, ◌++◌, length, take, drop, Option, Some, None, ap, subst, cond, arith, refl, append_assoc, length-append, length-take}
use Rattle.std.proofs.Math.Seq.{take-append-add}
use Rattle.std.proofs.lemmas.List.{take-append-le}
use Rattle.std.specs.Prelude.{◌==◌, nat_le}
use Rattle.std.specs.Io.KnownBytes.{Appends}
use Rattle.replay.specs.declared.grammar.Command.{Command}
use Rattle.replay.specs.Words.{words}
use Rattle.replay.specs.Grammar.{command_of, of_words}
use Rattle.replay.specs.Printed.{reply_text}
use Rattle.replay.specs.Text.{SystemView, IsAt, reply_to, world_after_command}
use Rattle.replay.specs.Streams.{Turned}
use Rattle.replay.proofs.Lists.{take_plus, take_all, rest_all}

pub appends_more : (a b c : Option (List ℕ)) (xs : List ℕ) (at n : ℕ) → Appends a b (take at xs) → Appends b c (take n (drop at xs)) → Appends a c (take (at + n) xs)
appends_more None b c xs at n h k = tt
appends_more (Some a) None c xs at n h k = absurd h
appends_more (Some a) (Some b) None xs at n h k = absurd k
appends_more (Some a) (Some b) (Some c) xs at n h k = k ∙ ap (λ ys. ys ++ take n (drop at xs)) h ∙ append_assoc a (take at xs) (take n (drop at xs)) ∙ ap (λ ys. a ++ ys) (sym (take_plus at n xs))

pub appends_rest : (a b c : Option (List ℕ)) (xs : List ℕ) (at n : ℕ) → Appends a b (take at xs) → Appends b c (take n (take (length xs - at) (drop at xs))) → Appends a c (take (at + n) xs)
appends_rest a b c xs at n h k = let P : List ℕ → Type 0 = λ ys. Appends b c (take n ys) in appends_more a b c xs at n h (subst P (rest_all at xs) k)

-- A line too long spells nothing, and so does its beginning.
pub too_long : (line : List ℕ) → 1024 < length line → command_of line ≡ None
too_long line h = let no : nat_le (length line) 1024 ≡ false = grind arith in ap (λ b. cond b (of_words (words line)) None) no

pub same_line : (line : List ℕ) → command_of (take 1025 line) ≡ command_of line
same_line line = by_length (nat_le (length line) 1025) refl
  where
    by_length : (b : Bool) → nat_le (length line) 1025 ≡ b → command_of (take 1025 line) ≡ command_of line
    by_length true e = ap command_of (take_all 1025 line (grind arith))
    by_length false e =
        let long : 1025 < length line = grind arith in
        too_long (take 1025 line) (omega (arith, length-take 1025 line)) ∙ sym (too_long line (omega arith))

-- A line that spells what another does is answered as that one.
pub turned_as : (old new : Option SystemView) (line whole w w' : List ℕ) → command_of line ≡ command_of whole → Turned old line w w' new → Turned old whole w w' new
turned_as old new line whole w w' e turned = λ world at.
    let P : Option Command → Type 0 = λ command. (w' ≡ w ++ (reply_text (reply_to world command) ++ 10 ∷ [])) × IsAt new (world_after_command world command) in
    subst P e (turned world at)

-- What is held of a line, or the line alone where nothing is, spells what the line does.
pub joined : (held piece held' line : List ℕ) → held' ≡ cond (length held == 0) held (take 1025 (held ++ piece)) → line ≡ cond (length held' == 0) piece held' → command_of line ≡ command_of (held ++ piece)
joined [] piece held' line e f = ap command_of (f ∙ ap (λ h. cond (length h == 0) piece h) e)
joined (b ∷ bytes) piece held' line e f =
    let no : (length (b ∷ bytes) == 0) ≡ false = grind arith in
    let is : held' ≡ take 1025 ((b ∷ bytes) ++ piece) = e ∙ ap (λ t. cond t (b ∷ bytes) (take 1025 ((b ∷ bytes) ++ piece))) no in
    let long : length held' ≢ 0 = λ z. omega (arith, z, ap length is, length-take 1025 ((b ∷ bytes) ++ piece), length-append (b ∷ bytes) piece) in
    let some : (length held' == 0) ≡ false = grind (arith, long) in
    ap command_of (f ∙ ap (λ t. cond t piece held') some ∙ is) ∙ same_line ((b ∷ bytes) ++ piece)

-- What is held is enough of a line.
pub enough : (rest piece : List ℕ) → command_of (take 1025 rest ++ piece) ≡ command_of (rest ++ piece)
enough rest piece = by_length (nat_le (length rest) 1025) refl
  where
    by_length : (b : Bool) → nat_le (length rest) 1025 ≡ b → command_of (take 1025 rest ++ piece) ≡ command_of (rest ++ piece)
    by_length true e = ap (λ z. command_of (z ++ piece)) (take_all 1025 rest (grind arith))
    by_length false e =
        let long : 1025 < length rest = grind arith in
        too_long (take 1025 rest ++ piece) (omega (arith, length-append (take 1025 rest) piece, length-take 1025 rest)) ∙ sym (too_long (rest ++ piece) (omega (arith, length-append rest piece)))

pub take_front : (rest piece : List ℕ) → take 1025 (take 1025 rest ++ piece) ≡ take 1025 (rest ++ piece)
take_front rest piece = by_length (nat_le (length rest) 1025) refl
  where
    by_length : (b : Bool) → nat_le (length rest) 1025 ≡ b → take 1025 (take 1025 rest ++ piece) ≡ take 1025 (rest ++ piece)
    by_length true e = ap (λ z. take 1025 (z ++ piece)) (take_all 1025 rest (grind arith))
    by_length false e =
        let long : 1025 < length rest = grind arith in
        take-append-le 1025 (take 1025 rest) piece (omega (arith, length-take 1025 rest))
        ∙ take_all 1025 (take 1025 rest) (omega (arith, length-take 1025 rest))
        ∙ sym (take-append-le 1025 rest piece (omega arith))

-- Bytes put behind a beginning, up to the room.
pub fills : (len i at : ℕ) (old piece new : List ℕ) → length old ≡ 1025 → len ≤ 1025 → at ≡ len + i → at ≤ 1025 → 1025 ≤ at → take at new ≡ take len old ++ take i piece → take at new ≡ take 1025 (take len old ++ piece)
fills len i at old piece new room le is most least e =
    let n : 1025 ≡ length (take len old) + i = omega (arith, length-take len old) in
    e ∙ sym (ap (λ k. take k (take len old ++ piece)) n ∙ take-append-add (take len old) piece i)

pub fits_whole : (len i at : ℕ) (old piece new : List ℕ) → length old ≡ 1025 → len ≤ 1025 → at ≡ len + i → at ≤ 1025 → length piece ≤ i → take at new ≡ take len old ++ take i piece → take at new ≡ take 1025 (take len old ++ piece)
fits_whole len i at old piece new room le is most all e =
    e ∙ ap (λ ys. take len old ++ ys) (take_all i piece all)
    ∙ sym (take_all 1025 (take len old ++ piece) (omega (arith, length-append (take len old) piece, length-take len old)))
