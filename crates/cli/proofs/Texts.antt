-- What reading and checking a text come to.
use Rattle.std.proofs.Common.{◌≡◌, ◌∙◌, refl, ap, inl, inr, ℕ, ◌<◌, ◌≤◌, List, length, Ok, Err, arith}
use Rattle.std.proofs.lemmas.List.{length-map}
use Rattle.script.specs.declared.code.Op.{Op}
use Rattle.script.specs.declared.fault.ScriptFault.{ScriptFault}
use Rattle.script.specs.declared.fault.ScriptFault.TheVariants.{Refused, NoMemory}
use Rattle.script.specs.declared.items.Script.{Script}
use Rattle.script.specs.View.{bodies}
use Rattle.script.specs.Reads.{longest, Reads}
use Rattle.script.specs.Checks.{script_faults}
use Rattle.script.specs.Faults.{IsFirst}
use Rattle.script.specs.Layout.{routine}
use Rattle.cli.specs.Check.{IsCodeOf, IsAnswered, IsFaultOf, right_line}
use Rattle.cli.specs.Faults.{of_script}

-- a text that is read isn't too long
pub is_short : (text : List ℕ) (script : Script) (fault : ScriptFault) → (longest < length text → Ok script ≡ Err fault) → length text ≤ longest
is_short text script fault h =
    let no : longest < length text → ⊥ = λ l. absurd (cc (h l)) in
    omega (arith, no)

-- the first fault of a script is that of its text
pub fault_of_script : (text : List ℕ) (script : Script) (fault : ScriptFault) → length text ≤ longest → Reads text (Ok script) → IsFirst (script_faults (bodies script)) fault → IsFaultOf text (of_script fault)
fault_of_script text script (Refused flaw place) short read (inl none) = absurd (cc none)
fault_of_script text script (Refused flaw place) short read (inr is) = inr (short, inr (record { script = script; read = read; faulty = is }))
fault_of_script text script NoMemory short read first = tt

-- the line of a text's code answers the text
pub answered : (text : List ℕ) (code : List (List Op)) (line : List ℕ) → IsCodeOf text code → line ≡ right_line (length code) → IsAnswered text line
answered text code line is e = (
  length (bodies is.script),
  record { short = is.short; script = is.script; read = is.read; clean = is.clean; count = refl },
  e ∙ ap (λ (n : ℕ). right_line n) (ap length is.laid ∙ length-map (bodies is.script) routine),
)
