-- The result of checking a script.
use Rattle.std.specs.Prelude.{◌≡◌, ◌⊎◌, ℕ, ◌<◌, ◌≤◌, List, [], ◌++◌, length, map, Option, Some, Result, Ok, Err, codes, decimal, ⊤}
use Rattle.std.specs.Io.KnownBytes.{Appends, Consumes, IsAtEnd}
use Rattle.replay.specs.Known.{AppendsPart}
use Rattle.script.specs.declared.code.Op.{Op}
use Rattle.script.specs.declared.fault.Fault.TheVariants.{TooLong}
use Rattle.script.specs.declared.fault.ScriptFault.{ScriptFault}
use Rattle.script.specs.declared.fault.ScriptFault.TheVariants.{Refused}
use Rattle.script.specs.declared.items.Script.{Script}
use Rattle.script.specs.View.{bodies}
use Rattle.script.specs.Reads.{longest, Reads}
use Rattle.script.specs.Checks.{script_faults}
use Rattle.script.specs.Checked.{AreChecked}
use Rattle.script.specs.Layout.{routine}
use Rattle.script.specs.Faults.{first}
use Rattle.cli.specs.declared.fault.Fault.{Fault}
use Rattle.cli.specs.declared.fault.Fault.TheVariants.{BadWords, FileNotRead, BadScript, ReadFailed, WriteFailed, NoMemory, NoThread, Refused as NotDone}

-- A text is a script with this many methods, and has no fault.
pub record IsRight (text : List ℕ) (methods : ℕ) : Type 0 where
  pub short : length text ≤ longest
  pub script : Script
  pub read : Reads text (Ok script)
  pub clean : script_faults (bodies script) ≡ []
  pub count : methods ≡ length (bodies script)

-- A text is a script without faults, and this is its code.
pub record IsCodeOf (text : List ℕ) (code : List (List Op)) : Type 0 where
  pub short : length text ≤ longest
  pub script : Script
  pub read : Reads text (Ok script)
  pub clean : script_faults (bodies script) ≡ []
  pub checked : AreChecked (bodies script)
  pub laid : code ≡ map routine (bodies script)

-- A text is a script whose first fault is this one.
pub record IsUnchecked (text : List ℕ) (fault : ScriptFault) : Type 0 where
  pub script : Script
  pub read : Reads text (Ok script)
  pub faulty : first (script_faults (bodies script)) ≡ Some fault

-- The first fault of a text: it is too long, it can't be read as a script, or the script has a fault.
abbrev pub IsWrong : List ℕ → ScriptFault → Type 0
IsWrong text fault =
    ((longest < length text) × (fault ≡ Refused TooLong []))
    ⊎ ((length text ≤ longest) × (Reads text (Err fault) ⊎ IsUnchecked text fault))

-- The output line for a script with this many methods.
abbrev pub right_line : ℕ → List ℕ
right_line methods = codes "ok " ++ decimal methods ++ codes "\n"

-- The output line for a text.
abbrev pub IsAnswered : List ℕ → List ℕ → Type 0
IsAnswered text line = (methods : ℕ) × IsRight text methods × (line ≡ right_line methods)

-- Why a text has no output line: its first fault, or a want of memory.
abbrev pub IsFaultOf : List ℕ → Fault → Type 0
IsFaultOf text BadWords = ⊥
IsFaultOf text FileNotRead = ⊥
IsFaultOf text (BadScript flaw place) = IsWrong text (Refused flaw place)
IsFaultOf text ReadFailed = ⊥
IsFaultOf text WriteFailed = ⊥
IsFaultOf text NoMemory = ⊤
IsFaultOf text NoThread = ⊥
IsFaultOf text NotDone = ⊥

-- The output when a file with this text is checked: the whole line if the text is right, a prefix of the line if a write failed, and otherwise nothing.
abbrev pub Told : {A : Type 0} → List ℕ → Result A Fault → Option (List ℕ) → Option (List ℕ) → Type 0
Told text (Ok x) got got' = (line : List ℕ) × IsAnswered text line × Appends got got' line
Told text (Err BadWords) got got' = ⊥
Told text (Err FileNotRead) got got' = got' ≡ got
Told text (Err (BadScript flaw place)) got got' = IsWrong text (Refused flaw place) × (got' ≡ got)
Told text (Err ReadFailed) got got' = ⊥
Told text (Err WriteFailed) got got' = (line : List ℕ) × IsAnswered text line × AppendsPart got got' line
Told text (Err NoMemory) got got' = got' ≡ got
Told text (Err NoThread) got got' = ⊥
Told text (Err NotDone) got got' = ⊥

-- How many reads and writes failed, by the result.
abbrev pub FailedCalls : {A : Type 0} → Result A Fault → ℕ → ℕ → Type 0
FailedCalls (Ok x) reads writes = (reads ≡ 0) × (writes ≡ 0)
FailedCalls (Err BadWords) reads writes = ⊥
FailedCalls (Err FileNotRead) reads writes = (reads ≡ 1) × (writes ≡ 0)
FailedCalls (Err (BadScript flaw place)) reads writes = (reads ≡ 0) × (writes ≡ 0)
FailedCalls (Err ReadFailed) reads writes = ⊥
FailedCalls (Err WriteFailed) reads writes = (reads ≡ 0) × (writes ≡ 1)
FailedCalls (Err NoMemory) reads writes = (reads ≡ 0) × (writes ≡ 0)
FailedCalls (Err NoThread) reads writes = ⊥
FailedCalls (Err NotDone) reads writes = ⊥

-- Why the text of a file can't be read: one read failed, or memory was refused and no read failed.
abbrev pub IsUnread : Fault → ℕ → Type 0
IsUnread BadWords reads = ⊥
IsUnread FileNotRead reads = reads ≡ 1
IsUnread (BadScript flaw place) reads = ⊥
IsUnread ReadFailed reads = ⊥
IsUnread WriteFailed reads = ⊥
IsUnread NoMemory reads = reads ≡ 0
IsUnread NoThread reads = ⊥
IsUnread NotDone reads = ⊥

-- The text is all that the source has, or a part of it that exceeds the longest text.
abbrev pub ReadsEnough : Option (List ℕ) → Option (List ℕ) → List ℕ → Type 0
ReadsEnough left left' text = Consumes left left' text × (IsAtEnd left' ⊎ (longest < length text))

-- Some text was read, either all that the source has or more than the longest text, and the output is the one for this text.
pub record TextTold {A : Type 0} (result : Result A Fault) (left left' got got' : Option (List ℕ)) : Type 0 where
  pub text : List ℕ
  pub enough : ReadsEnough left left' text
  pub told : Told text result got got'

-- The output, also for a source whose bytes aren't known: the one for the text that was read, and nothing if none was read.
abbrev pub ReadAndTold : {A : Type 0} → Result A Fault → Option (List ℕ) → Option (List ℕ) → Option (List ℕ) → Option (List ℕ) → Type 0
ReadAndTold (Err FileNotRead) left left' got got' = got' ≡ got
ReadAndTold (Err NoMemory) left left' got got' = got' ≡ got
ReadAndTold result left left' got got' = TextTold result left left' got got'

-- Why a source gives no code: one read failed, the text that was read has this fault, or memory was refused.
abbrev pub IsFaultOfSource : Option (List ℕ) → Option (List ℕ) → ℕ → Fault → Type 0
IsFaultOfSource left left' reads FileNotRead = reads ≡ 1
IsFaultOfSource left left' reads NoMemory = reads ≡ 0
IsFaultOfSource left left' reads fault = (reads ≡ 0) × ((text : List ℕ) × ReadsEnough left left' text × IsFaultOf text fault)
