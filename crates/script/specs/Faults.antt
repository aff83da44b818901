-- All faults of a script's text, in the order of the document.
use Rattle.std.specs.Prelude.{◌≡◌, ◌⊎◌, ℕ, zero, suc, ◌+◌, nat_lt, List, [], ◌∷◌, ◌++◌, Option, Some, None, if◌then◌else◌}
use Rattle.serde_json.specs.Data.{Data, Items, no_items, item}
use Rattle.serde_json.specs.Find.{as_array}
use Rattle.serde_json.specs.Events.{items_len}
use Rattle.script.specs.declared.fault.Fault.TheVariants.{BadShape, NoMethods, TooManyMethods, TooManyItems}
use Rattle.script.specs.declared.fault.ScriptFault.{ScriptFault}
use Rattle.script.specs.declared.fault.ScriptFault.TheVariants.{Refused, NoMemory}
use Rattle.script.specs.Outline.{Outline, end, action, turns, wrong, count}
use Rattle.script.specs.Json.{outline, methods_in}

-- at most 65,536 items: the fault of an item with so many before it
abbrev pub crowded : ℕ → List ℕ → List ScriptFault
crowded before place = if nat_lt before 65536 then [] else Refused TooManyItems place ∷ []

-- the faults of a body at a place, from item k on, with so many items of the script before it
abbrev pub faults : List ℕ → ℕ → ℕ → Outline → List ScriptFault
faults place k before end = []
faults place k before (action a rest) = crowded before (place ++ k ∷ []) ++ faults place (k + 1) (before + 1) rest
faults place k before (turns n b rest) =
    crowded before (place ++ k ∷ []) ++ faults (place ++ k ∷ []) 0 (before + 1) b
    ++ faults place (k + 1) (before + 1 + count b) rest
faults place k before (wrong rest) = Refused BadShape (place ++ k ∷ []) ∷ faults place (k + 1) (before + 1) rest

abbrev pub method_faults : ℕ → ℕ → Option Items → List ScriptFault
method_faults m before None = Refused BadShape (m ∷ []) ∷ []
method_faults m before (Some ds) = faults (m ∷ []) 0 before (outline ds)

abbrev pub method_count : Option Items → ℕ
method_count None = 0
method_count (Some ds) = count (outline ds)

-- the faults of the methods from number m on
abbrev pub methods_faults : ℕ → ℕ → Items → List ScriptFault
methods_faults m before no_items = []
methods_faults m before (item d ds) = method_faults m before (as_array d) ++ methods_faults (m + 1) (before + method_count (as_array d)) ds

-- 1 to 256 methods
abbrev pub number_faults : ℕ → List ScriptFault
number_faults zero = Refused NoMethods [] ∷ []
number_faults (suc n) = if nat_lt n 256 then [] else Refused TooManyMethods [] ∷ []

abbrev pub document_faults_of : Option Items → List ScriptFault
document_faults_of None = Refused BadShape [] ∷ []
document_faults_of (Some ds) = number_faults (items_len ds) ++ methods_faults 0 0 ds

-- the faults of a JSON value
abbrev pub document_faults : Data → List ScriptFault
document_faults d = document_faults_of (methods_in d)

abbrev pub first : List ScriptFault → Option ScriptFault
first [] = None
first (e ∷ es) = Some e

-- it is the first of the faults, or memory was refused
abbrev pub IsFirst : List ScriptFault → ScriptFault → Type 0
IsFirst es e = (e ≡ NoMemory) ⊎ (first es ≡ Some e)
