-- What a whole call read and wrote.
use Rattle.std.specs.Prelude.{◌≡◌, ◌⊎◌, ◌^◌, ◌-◌, ◌++◌, ◌∷◌, ℕ, List, [], Option, None, Result, Ok, Err}
use Rattle.std.specs.Io.KnownBytes.{Appends, Consumes, IsAtEnd}
use Rattle.replay.specs.declared.stream.ReplayFault.{ReplayFault}
use Rattle.replay.specs.declared.stream.ReplayFault.TheVariants.{ReadFailed, WriteFailed, NoMemory}
use Rattle.replay.specs.Known.{AppendsPart}
use Rattle.replay.specs.Room.{LineTakes}
use Rattle.replay.specs.Text.{SystemView, told, text}
use Rattle.replay.specs.Streams.{Front, Splits, FedTo, after_lines}

-- All was read, and the text of it was written.
pub record WroteAll (left left' got got' : Option (List ℕ)) : Type 0 where
  pub read : List ℕ
  pub consumed : Consumes left left' read
  pub at_end : IsAtEnd left'
  pub written : Appends got got' (text read)

-- The text for the whole lines that were read was written; a rest without a newline was not answered.
pub record WroteLines (left left' got got' : Option (List ℕ)) : Type 0 where
  pub read : List ℕ
  pub lines : List (List ℕ)
  pub rest : List ℕ
  pub consumed : Consumes left left' read
  pub splits : Splits read lines rest
  pub written : Appends got got' (told None lines)

-- A beginning of the text of what was read was written.
pub record WrotePart (left left' got got' : Option (List ℕ)) : Type 0 where
  pub read : List ℕ
  pub consumed : Consumes left left' read
  pub written : AppendsPart got got' (text read)

-- After these lines of what was read, this is the next line: a whole line, or the last one if the end was reached.
abbrev pub Reaches : Option (List ℕ) → List ℕ → List (List ℕ) → List ℕ → Type 0
Reaches left' read lines line = ((rest : List ℕ) × Front read (lines ++ line ∷ []) rest) ⊎ (Splits read lines line × IsAtEnd left')

-- The text of the lines before one that takes memory was written.
pub record WroteBefore (left left' got got' : Option (List ℕ)) : Type 0 where
  pub read : List ℕ
  pub lines : List (List ℕ)
  pub line : List ℕ
  pub consumed : Consumes left left' read
  pub next : Reaches left' read lines line
  pub takes : LineTakes (after_lines None lines) line
  pub written : Appends got got' (told None lines)

-- Nothing was read, and nothing written.
pub record WroteNothing (left left' got got' : Option (List ℕ)) : Type 0 where
  pub unread : left' ≡ left
  pub unwritten : got' ≡ got

-- What was read and written, by the call's result.
abbrev pub Wrote : {A : Type 0} → Result A ReplayFault → Option (List ℕ) → Option (List ℕ) → Option (List ℕ) → Option (List ℕ) → Type 0
Wrote (Ok x) left left' got got' = WroteAll left left' got got'
Wrote (Err ReadFailed) left left' got got' = WroteLines left left' got got'
Wrote (Err WriteFailed) left left' got got' = WrotePart left left' got got'
Wrote (Err NoMemory) left left' got got' = WroteNothing left left' got got' ⊎ WroteBefore left left' got got'

-- Which calls failed, by the call's result; and how many reads gave bytes, if none failed and the end wasn't reached.
abbrev pub FailedCalls : {A : Type 0} → Result A ReplayFault → ℕ → ℕ → ℕ → Type 0
FailedCalls (Ok x) reads failed_reads failed_writes = (failed_reads ≡ 0) × (failed_writes ≡ 0)
FailedCalls (Err ReadFailed) reads failed_reads failed_writes = ((failed_reads ≡ 1) ⊎ (reads ≡ 2 ^ 40 - 1)) × (failed_writes ≡ 0)
FailedCalls (Err WriteFailed) reads failed_reads failed_writes = (failed_reads ≡ 0) × (failed_writes ≡ 1)
FailedCalls (Err NoMemory) reads failed_reads failed_writes = (failed_reads ≡ 0) × (failed_writes ≡ 0)

-- What was read so far, and how the lines in it were answered.
pub record SoFar (left left' got got' : Option (List ℕ)) (new : Option SystemView) (held : List ℕ) : Type 0 where
  pub read : List ℕ
  pub consumed : Consumes left left' read
  pub fed : FedTo None [] read [] got (record { system = new; held = held; waits = []; got = got' })
