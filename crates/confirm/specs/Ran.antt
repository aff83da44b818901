-- What a run reads and writes.
use Rattle.std.specs.Prelude.{◌≡◌, ℕ, ◌^◌, ◌<◌, length, List, Option, Result, Ok, Err}
use Rattle.std.specs.Io.KnownBytes.{Appends, Consumes, IsAtEnd}
use Rattle.replay.specs.Known.{AppendsPart}
use Rattle.confirm.specs.declared.fault.Fault.{Fault}
use Rattle.confirm.specs.declared.fault.Fault.TheVariants as fault
use Rattle.confirm.specs.declared.run.Status.{Status}
use Rattle.confirm.specs.declared.run.Status.TheVariants as status
use Rattle.confirm.specs.Told.{Explains, Fails, IsFaultOf}

-- The source was read to its end.
abbrev pub ReadsWhole : Option (List ℕ) → Option (List ℕ) → List ℕ → Type 0
ReadsWhole left left' text = Consumes left left' text × IsAtEnd left'

-- More bytes were read than the longest text has.
pub record ReadsTooMuch (left left' : Option (List ℕ)) : Type 0 where
  pub text : List ℕ
  pub taken : Consumes left left' text
  pub long : 2 ^ 28 < length text

-- Why the text of a source couldn't be read, and how many reads failed then.
abbrev pub IsUnread : Option (List ℕ) → Option (List ℕ) → ℕ → Fault → Type 0
IsUnread left left' reads fault.ReadFailed = reads ≡ 1
IsUnread left left' reads fault.TooLong = (reads ≡ 0) × ReadsTooMuch left left'
IsUnread left left' reads fault.NoMemory = reads ≡ 0
IsUnread left left' reads other = ⊥

-- The input was read to its end, and the lines of an order that explains its log were written.
pub record WroteOrder (left left' got got' : Option (List ℕ)) : Type 0 where
  pub text : List ℕ
  pub lines : List ℕ
  pub whole : ReadsWhole left left' text
  pub explains : Explains text lines
  pub written : Appends got got' lines

-- A prefix of such lines was written.
pub record WrotePart (left left' got got' : Option (List ℕ)) : Type 0 where
  pub text : List ℕ
  pub lines : List ℕ
  pub whole : ReadsWhole left left' text
  pub explains : Explains text lines
  pub written : AppendsPart got got' lines

-- The input was read to its end, its order doesn't explain its log, and nothing was written.
pub record WroteNone (left left' got got' : Option (List ℕ)) : Type 0 where
  pub text : List ℕ
  pub whole : ReadsWhole left left' text
  pub fails : Fails text
  pub unwritten : got' ≡ got

-- The input was read to its end, it has the fault, and nothing was written.
pub record Refused (left left' got got' : Option (List ℕ)) (wrong : Fault) : Type 0 where
  pub text : List ℕ
  pub whole : ReadsWhole left left' text
  pub fault_is : IsFaultOf text wrong
  pub unwritten : got' ≡ got

-- What was read and written, by the run's result: order lines are written only where that order explains the log that was read.
abbrev pub Ran : Result Status Fault → Option (List ℕ) → Option (List ℕ) → Option (List ℕ) → Option (List ℕ) → Type 0
Ran (Ok status.Explained) left left' got got' = WroteOrder left left' got got'
Ran (Ok status.NotExplained) left left' got got' = WroteNone left left' got got'
Ran (Err fault.BadWords) left left' got got' = ⊥
Ran (Err fault.ReadFailed) left left' got got' = got' ≡ got
Ran (Err fault.TooLong) left left' got got' = ReadsTooMuch left left' × (got' ≡ got)
Ran (Err fault.WriteFailed) left left' got got' = WrotePart left left' got got'
Ran (Err fault.NoMemory) left left' got got' = got' ≡ got
Ran (Err other) left left' got got' = Refused left left' got got' other

-- How many reads and writes failed, by the run's result.
abbrev pub FailedCalls : Result Status Fault → ℕ → ℕ → Type 0
FailedCalls (Err fault.ReadFailed) reads writes = (reads ≡ 1) × (writes ≡ 0)
FailedCalls (Err fault.WriteFailed) reads writes = (reads ≡ 0) × (writes ≡ 1)
FailedCalls other reads writes = (reads ≡ 0) × (writes ≡ 0)
