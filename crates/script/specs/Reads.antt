-- What reading a text as a script answers.
use Rattle.std.specs.Prelude.{◌≡◌, ℕ, ◌⊎◌, List, [], map, Some, None, option_map, Result, Ok, Err, IsUtf8}
use Rattle.serde_json.specs.Data.{Data}
use Rattle.serde_json.specs.Read.{read}
use Rattle.script.specs.declared.fault.Fault.TheVariants.{NotJson}
use Rattle.script.specs.declared.fault.ScriptFault.{ScriptFault}
use Rattle.script.specs.declared.fault.ScriptFault.TheVariants.{Refused, NoMemory}
use Rattle.script.specs.declared.items.Script.{Script}
use Rattle.script.specs.Body.{Body}
use Rattle.script.specs.Json.{methods_in, method_outlines, some_sound}
use Rattle.script.specs.Faults.{document_faults, first, IsFirst}
use Rattle.script.specs.View.{bodies}

-- the JSON value is the script of these methods
abbrev pub Spells : Data → List Body → Type 0
Spells d bs = option_map method_outlines (methods_in d) ≡ Some (map some_sound bs)

-- the longest text that is read, in bytes
abbrev pub longest : ℕ
longest = 1048576

-- the script that a faultless JSON value is, or the value's first fault, or that memory was refused
abbrev pub ReadsDocument : Data → Result Script ScriptFault → Type 0
ReadsDocument d (Ok s) = Spells d (bodies s) × (document_faults d ≡ [])
ReadsDocument d (Err e) = IsFirst (document_faults d) e

-- a text is this JSON value, as `serde_json` reads it
abbrev pub IsJson : List ℕ → Data → Type 0
IsJson text d = IsUtf8 text × (read text ≡ Some d)

abbrev pub IsNoJson : List ℕ → Type 0
IsNoJson text = IsUtf8 text → read text ≡ None

-- the script that a faultless text is, or the text's first fault, or that memory was refused
abbrev pub Reads : List ℕ → Result Script ScriptFault → Type 0
Reads text (Ok s) = (d : Data) × IsJson text d × Spells d (bodies s) × (document_faults d ≡ [])
Reads text (Err e) =
    (e ≡ NoMemory)
    ⊎ ((IsNoJson text × (e ≡ Refused NotJson []))
    ⊎ ((d : Data) × IsJson text d × (first (document_faults d) ≡ Some e)))
