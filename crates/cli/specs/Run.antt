-- The result of running a script.
use Rattle.std.specs.Prelude.{◌≡◌, ℕ, List, Option, Result, Ok, Err, ⊤}
use Rattle.std.specs.Io.KnownBytes.{Appends}
use Rattle.replay.specs.Known.{AppendsPart}
use Rattle.script.specs.declared.code.Op.{Op}
use Rattle.workers.specs.Summaries.{Summed, IsSummary, summary_text}
use Rattle.cli.specs.declared.fault.Fault.{Fault}
use Rattle.cli.specs.declared.fault.Fault.TheVariants.{BadWords, FileNotRead, BadScript, ReadFailed, WriteFailed, NoMemory, NoThread, Refused}

-- The faults with which a run fails.
abbrev pub IsNotRun : Fault → Type 0
IsNotRun BadWords = ⊥
IsNotRun FileNotRead = ⊥
IsNotRun (BadScript flaw place) = ⊥
IsNotRun ReadFailed = ⊥
IsNotRun WriteFailed = ⊥
IsNotRun NoMemory = ⊤
IsNotRun NoThread = ⊤
IsNotRun Refused = ⊤

-- The text of a run of this code by this many threads.
abbrev pub IsText : List (List Op) → ℕ → List ℕ → Type 0
IsText code threads text = (s : Summed) × IsSummary code threads s × (text ≡ summary_text s)

-- The output of a run of this code by this many threads: the text of its summary, a prefix of it if a write failed, and otherwise nothing.
abbrev pub Printed : {A : Type 0} → List (List Op) → ℕ → Result A Fault → Option (List ℕ) → Option (List ℕ) → Type 0
Printed code threads (Ok x) got got' = (s : Summed) × IsSummary code threads s × Appends got got' (summary_text s)
Printed code threads (Err WriteFailed) got got' = (s : Summed) × IsSummary code threads s × AppendsPart got got' (summary_text s)
Printed code threads (Err fault) got got' = IsNotRun fault × (got' ≡ got)

-- How many writes failed.
abbrev pub FailedWrites : {A : Type 0} → Result A Fault → ℕ → Type 0
FailedWrites (Err WriteFailed) writes = writes ≡ 1
FailedWrites result writes = writes ≡ 0
