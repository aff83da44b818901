-- The summary of a run, and its text.
use Rattle.std.specs.Prelude.{◌≡◌, ◌≤◌, ◌||◌, ◌*◌, ℕ, suc, Bool, true, false, List, [], ◌∷◌, ◌++◌, All, Ok, codes, decimal, length, ⊤}
use Rattle.std.specs.List.{flat_map}
use Rattle.script.specs.declared.code.Op.{Op}
use Rattle.workers.specs.declared.report.Ending.{Ending}
use Rattle.workers.specs.declared.report.Ending.TheVariants.{Finished, Overflow, OutOfFuel}
use Rattle.workers.specs.declared.summary.Line.{Line}
use Rattle.desk.specs.Machine.{Stands}
use Rattle.workers.specs.Ended.{Reported, IsReport}
use Rattle.workers.specs.Replacing.{IsTally}

abbrev pub ending_text : Ending → List ℕ
ending_text Finished = codes "finished"
ending_text Overflow = codes "overflow"
ending_text OutOfFuel = codes "fuel"

abbrev pub line_text : Line → List ℕ
line_text l = codes "thread " ++ decimal l.name ++ codes " " ++ ending_text l.ending ++ codes " " ++ decimal l.made ++ codes "\n"

abbrev pub yes_or_no : Bool → List ℕ
yes_or_no true = codes "yes"
yes_or_no false = codes "no"

-- The view of a summary in contracts: the report and the line of each thread, whether some frame was compiled, the receipts of the installed and freed codes, and the sum of all count words.
pub record Summed : Type 0 where
  pub reports : List Reported
  pub lines : List Line
  pub compiled : Bool
  pub installed : List Stands
  pub freed : List Stands
  pub counts : ℕ

abbrev pub summary_text : Summed → List ℕ
summary_text s = (codes "threads " ++ decimal (length s.lines) ++ codes "\n")
    ++ flat_map line_text s.lines
    ++ (codes "compiled " ++ yes_or_no s.compiled ++ codes "\n")
    ++ (codes "codes " ++ decimal (length s.installed) ++ codes " freed " ++ decimal (length s.freed) ++ codes "\n")
    ++ (codes "counts " ++ decimal s.counts ++ codes "\n")

-- The line has the content of the thread's report, and no mark of the thread was refused.
abbrev pub Tells : Reported → Line → Type 0
Tells r l = (r.name ≡ l.name) × (r.ending ≡ Ok l.ending) × (r.made ≡ l.made)

-- One line for each report; the names rise by one, starting with this one.
abbrev pub AreLines : ℕ → List Reported → List Line → Type 0
AreLines name [] [] = ⊤
AreLines name [] (l ∷ ls) = ⊥
AreLines name (r ∷ rs) [] = ⊥
AreLines name (r ∷ rs) (l ∷ ls) = (l.name ≡ name) × Tells r l × AreLines (suc name) rs ls

abbrev pub some_compiled : List Reported → Bool
some_compiled [] = false
some_compiled (r ∷ rs) = r.compiled || some_compiled rs

-- The summary of a run of this code by this many threads: each thread has its report and its line, and some frame was compiled exactly if a thread reported so. Two codes for each method were installed, and no more freed.
pub record IsSummary (code : List (List Op)) (threads : ℕ) (s : Summed) : Type 0 where
  pub ran : All (IsReport code) s.reports
  pub lines : AreLines 1 s.reports s.lines
  pub count : length s.lines ≡ threads
  pub compiled : s.compiled ≡ some_compiled s.reports
  pub codes_done : IsTally (length code) s.installed s.freed
  pub installed : length s.installed ≡ 2 * length code
  pub freed : length s.freed ≤ length s.installed
