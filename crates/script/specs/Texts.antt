-- How a fault and its place are printed.
use Rattle.std.specs.Prelude.{ℕ, codes, decimal, List, [], ◌∷◌, ◌++◌}
use Rattle.std.specs.List.{flat_map}
use Rattle.script.specs.declared.fault.Fault.{Fault}
use Rattle.script.specs.declared.fault.Fault.TheVariants.{TooLong, NotJson, BadShape, NoMethods, TooManyMethods, TooManyItems, BadCall, BadLoop, TooDeep}
use Rattle.script.specs.declared.fault.ScriptFault.{ScriptFault}
use Rattle.script.specs.declared.fault.ScriptFault.TheVariants.{Refused, NoMemory}

abbrev pub inner_text : ℕ → List ℕ
inner_text number = codes "." ++ decimal number

-- the numbers with dots between them; the document has none
abbrev pub place_text : List ℕ → List ℕ
place_text [] = codes "-"
place_text (method ∷ numbers) = decimal method ++ flat_map inner_text numbers

abbrev pub fault_name : Fault → List ℕ
fault_name TooLong = codes "TooLong"
fault_name NotJson = codes "NotJson"
fault_name BadShape = codes "BadShape"
fault_name NoMethods = codes "NoMethods"
fault_name TooManyMethods = codes "TooManyMethods"
fault_name TooManyItems = codes "TooManyItems"
fault_name BadCall = codes "BadCall"
fault_name BadLoop = codes "BadLoop"
fault_name TooDeep = codes "TooDeep"

abbrev pub script_fault_text : ScriptFault → List ℕ
script_fault_text (Refused fault place) = fault_name fault ++ codes " at " ++ place_text place
script_fault_text NoMemory = codes "no memory"
