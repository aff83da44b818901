-- What was read of a file is enough to answer for all of it.
use Rattle.std.proofs.Common.{◌≡◌, ◌≢◌, ◌∙◌, inl, inr, ℕ, zero, suc, ◌+◌, ◌<◌, ◌≤◌, ◌==◌, cond, false, List, [], ◌∷◌, ◌++◌, length, length-append, take, drop, IfSome, IfErr, Option, Some, None, Result, Ok, Err, refl, sym, ap, subst, append_assoc, arith}
use Rattle.std.proofs.Math.Seq.{take-append_seam}
use Rattle.std.proofs.lemmas.List.{length-take-le}
use Rattle.std.specs.Io.KnownBytes.{Consumes, IsAtEnd}
use Rattle.script.specs.declared.fault.ScriptFault.{ScriptFault}
use Rattle.script.specs.declared.fault.ScriptFault.TheVariants.{Refused}
use Rattle.cli.specs.declared.fault.Fault.{Fault}
use Rattle.cli.specs.declared.fault.Fault.TheVariants.{BadWords, FileNotRead, BadScript, ReadFailed, WriteFailed, NoMemory, NoThread, Refused as NotDone}
use Rattle.script.specs.Reads.{longest}
use Rattle.cli.specs.Check.{IsWrong, IsAnswered, IsFaultOf, Told, TextTold, ReadAndTold, IsFaultOfSource, ReadsEnough}

append_none : (xs : List ℕ) → xs ++ [] ≡ xs
append_none [] = refl
append_none (x ∷ xs) = ap (λ z. x ∷ z) (append_none xs)

pub nothing_taken : (left : Option (List ℕ)) → Consumes left left []
nothing_taken None = tt
nothing_taken (Some xs) = refl

-- one piece after another
pub taken_on : (a b c : Option (List ℕ)) (x y : List ℕ) → Consumes a b x → Consumes b c y → Consumes a c (x ++ y)
taken_on None b c x y h k = tt
taken_on (Some a) None c x y h k = absurd h
taken_on (Some a) (Some b) None x y h k = absurd k
taken_on (Some a) (Some b) (Some c) x y h k = h ∙ ap (λ z. x ++ z) k ∙ sym (append_assoc x y c)

-- a read that gave nothing is at the end
pub all_taken : (a b c : Option (List ℕ)) (x buf : List ℕ) (n : ℕ) → Consumes a b x → n ≡ 0 → Consumes b c (take n buf) → IsAtEnd c → ReadsEnough a c x
all_taken a b c x buf n h e k end =
    (subst (λ (z : List ℕ). Consumes a c z) (ap (λ (m : ℕ). x ++ take m buf) e ∙ append_none x) (taken_on a b c x (take n buf) h k), inl end)

-- the block behind a read: what is taken of it is what was read
pub block_is : (buf items : List ℕ) (len : ℕ) → length buf ≡ len → take len (buf ++ drop (length buf) items) ≡ buf
block_is buf items len e = ap (λ k. take k (buf ++ drop (length buf) items)) (sym e) ∙ take-append_seam buf (drop (length buf) items)

-- a read that gave bytes is one more
pub more_read : (n before after text more : ℕ) (buf : List ℕ) → n ≢ 0 → after ≡ cond (n == 0) before (before + 1) → before ≤ text → n ≤ length buf → more ≡ text + length (take n buf) → after ≤ more
more_read zero before after text more buf some e f b g = absurd (some refl)
more_read (suc n) before after text more buf some e f b g =
    let no : (suc n == 0) ≡ false = grind arith in
    let one : after ≡ before + 1 = e ∙ ap (λ b. cond b before (before + 1)) no in
    omega (arith, one, f, g, length-take-le (suc n) buf b)

-- What a whole text is, where so much of it was read: it is that, or both are too long.
pub data Part (input text : List ℕ) : Type 0 where
  whole : input ≡ text → Part input text
  long : longest < length text → longest < length input → Part input text

pub part_of : (input text : List ℕ) (left : Option (List ℕ)) → ReadsEnough (Some input) left text → Part input text
part_of input text None h = absurd h.0
part_of input text (Some rest) (e, inl end) = whole (e ∙ ap (λ (z : List ℕ). text ++ z) end ∙ append_none text)
part_of input text (Some rest) (e, inr more) =
    let both : length input ≡ length text + length rest = ap length e ∙ length-append text rest in
    long more (omega (arith, both, more))

wrong_of : (input text : List ℕ) (fault : ScriptFault) → Part input text → IsWrong text fault → IsWrong input fault
wrong_of input text fault (whole e) wrong = subst (λ (z : List ℕ). IsWrong z fault) (sym e) wrong
wrong_of input text fault (long more all) (inl (short, is)) = inl (all, is)
wrong_of input text fault (long more all) (inr (short, why)) = absurd (omega (arith, more, short))

right_of : (input text line : List ℕ) → Part input text → IsAnswered text line → IsAnswered input line
right_of input text line (whole e) is = subst (λ (z : List ℕ). IsAnswered z line) (sym e) is
right_of input text line (long more all) (methods, is, e) = let short = is.short in absurd (omega (arith, more, short))

told_of : (A : Type 0) (result : Result A Fault) (input text : List ℕ) (got got' : Option (List ℕ)) → Part input text → Told text result got got' → Told input result got got'
told_of A (Ok x) input text got got' part (line, is, written) = (line, right_of input text line part is, written)
told_of A (Err BadWords) input text got got' part told = told
told_of A (Err FileNotRead) input text got got' part told = told
told_of A (Err (BadScript flaw place)) input text got got' part (wrong, same) = (wrong_of input text (Refused flaw place) part wrong, same)
told_of A (Err ReadFailed) input text got got' part told = told
told_of A (Err WriteFailed) input text got got' part (line, is, written) = (line, right_of input text line part is, written)
told_of A (Err NoMemory) input text got got' part told = told
told_of A (Err NoThread) input text got got' part told = told
told_of A (Err NotDone) input text got got' part told = told

told_by : (A : Type 0) (result : Result A Fault) (input : List ℕ) (left' got got' : Option (List ℕ)) → TextTold result (Some input) left' got got' → Told input result got got'
told_by A result input left' got got' all = told_of A result input all.text got got' (part_of input all.text left' all.enough) all.told

-- what is told of the text that was read is told of all that the source had
pub told_all : (A : Type 0) (result : Result A Fault) (left left' got got' : Option (List ℕ)) → ReadAndTold result left left' got got' → IfSome left (λ input. Told input result got got')
told_all A result None left' got got' h = tt
told_all A (Ok x) (Some input) left' got got' h = told_by A (Ok x) input left' got got' h
told_all A (Err BadWords) (Some input) left' got got' h = told_by A (Err BadWords) input left' got got' h
told_all A (Err FileNotRead) (Some input) left' got got' h = h
told_all A (Err (BadScript flaw place)) (Some input) left' got got' h = told_by A (Err (BadScript flaw place)) input left' got got' h
told_all A (Err ReadFailed) (Some input) left' got got' h = told_by A (Err ReadFailed) input left' got got' h
told_all A (Err WriteFailed) (Some input) left' got got' h = told_by A (Err WriteFailed) input left' got got' h
told_all A (Err NoMemory) (Some input) left' got got' h = h
told_all A (Err NoThread) (Some input) left' got got' h = told_by A (Err NoThread) input left' got got' h
told_all A (Err NotDone) (Some input) left' got got' h = told_by A (Err NotDone) input left' got got' h

-- of a text that is wrong its fault is told
pub read_fault : (A : Type 0) (left left' got : Option (List ℕ)) (text : List ℕ) (fault : Fault) → ReadsEnough left left' text → IsFaultOf text fault → ReadAndTold {A = A} (Err fault) left left' got got
read_fault A left left' got text BadWords enough h = absurd h
read_fault A left left' got text FileNotRead enough h = absurd h
read_fault A left left' got text (BadScript flaw place) enough h = record { text = text; enough = enough; told = (h, refl) }
read_fault A left left' got text ReadFailed enough h = absurd h
read_fault A left left' got text WriteFailed enough h = absurd h
read_fault A left left' got text NoMemory enough h = refl
read_fault A left left' got text NoThread enough h = absurd h
read_fault A left left' got text NotDone enough h = absurd h

-- a text that was read has the fault of its source
pub fault_of_source : (left left' : Option (List ℕ)) (reads : ℕ) (text : List ℕ) (fault : Fault) → reads ≡ 0 → ReadsEnough left left' text → IsFaultOf text fault → IsFaultOfSource left left' reads fault
fault_of_source left left' reads text BadWords none enough h = absurd h
fault_of_source left left' reads text FileNotRead none enough h = absurd h
fault_of_source left left' reads text (BadScript flaw place) none enough h = (none, (text, enough, h))
fault_of_source left left' reads text ReadFailed none enough h = absurd h
fault_of_source left left' reads text WriteFailed none enough h = absurd h
fault_of_source left left' reads text NoMemory none enough h = none
fault_of_source left left' reads text NoThread none enough h = absurd h
fault_of_source left left' reads text NotDone none enough h = absurd h

pub fault_of_read : {A : Type 0} (result : Result A Fault) (left left' : Option (List ℕ)) (reads : ℕ) (text : List ℕ) → reads ≡ 0 → ReadsEnough left left' text → IfErr result (IsFaultOf text) → IfErr result (IsFaultOfSource left left' reads)
fault_of_read (Ok x) left left' reads text none enough h = tt
fault_of_read (Err fault) left left' reads text none enough h = fault_of_source left left' reads text fault none enough h
