-- How the run of a trace ends, and how many marks it makes.
use Rattle.std.specs.Prelude.{◌≡◌, ℕ, zero, suc, Bool, false, List, length, map, Result, Ok, Err, ⊤}
use Rattle.script.specs.declared.code.Op.{Op}
use Rattle.script.specs.Body.{Body}
use Rattle.script.specs.Checked.{AreChecked}
use Rattle.script.specs.Layout.{routine}
use Rattle.interp.specs.declared.mark.Mark.{Mark}
use Rattle.interp.specs.declared.runner.Runner.{Runner}
use Rattle.interp.specs.declared.runner.Outcome.{Outcome}
use Rattle.interp.specs.declared.runner.Outcome.TheVariants as outcome
use Rattle.interp.specs.Trace.{Trace, finished, overflowed, made, after, trace}
use Rattle.interp.specs.Chain.{Chain}
use Rattle.interp.specs.Left.{Left, made_by}
use Rattle.desk.specs.declared.entries.Entry.{Entry}
use Rattle.desk.specs.declared.entries.Entry.TheVariants.{Exit}
use Rattle.workers.specs.declared.worker.Refused.{Refused}
use Rattle.workers.specs.declared.report.Ending.{Ending}
use Rattle.workers.specs.declared.report.Ending.TheVariants.{Finished, Overflow, OutOfFuel}
use Rattle.workers.specs.Marks.{Working, Does}

-- How a run ends, and the marks made by then.
pub record Ended : Type 0 where
  pub ending : Ending
  pub marks : ℕ

abbrev pub after_marks : Ending → ℕ → Ended
after_marks e n = record { ending = e; marks = n }

abbrev pub one_more : Ended → Ended
one_more e = after_marks e.ending (suc e.marks)

-- The end of a trace with this much fuel. Each mark uses one unit.
unfoldable pub ended : ℕ → Trace → Ended
ended fuel finished = after_marks Finished 0
ended fuel overflowed = after_marks Overflow 0
ended zero (made m t) = after_marks OutOfFuel 0
ended (suc fuel) (made m t) = one_more (ended fuel t)

-- The most marks of a run.
abbrev pub most : ℕ
most = 1000000

-- The result of a run of this trace with this much fuel. It is determined unless a mark was refused.
abbrev pub EndsAs : ℕ → Trace → Result Ending Refused → ℕ → Type 0
EndsAs fuel t (Ok ending) marks = ended fuel t ≡ after_marks ending marks
EndsAs fuel t (Err refused) marks = ⊤

-- The report of a thread: the entry of its exit, its name, how its run ended, the marks that it made, and whether some frame was compiled.
pub record Reported : Type 0 where
  pub exited : Entry
  pub name : ℕ
  pub ending : Result Ending Refused
  pub made : ℕ
  pub compiled : Bool

-- The thread of this name made the first marks of the trace, this many, one after the other. None of its frames had been compiled before; whether one is now follows from how each method was entered.
pub record HasMade (w : Trace) (name : ℕ) (marks : ℕ) (compiled : Bool) : Type 0 where
  pub first : List Mark
  pub rest : Trace
  pub whole : w ≡ after first rest
  pub count : marks ≡ length first
  pub old : Working
  pub new : Working
  pub named : old.thread.name ≡ name
  pub fresh : old.compiled ≡ false
  pub steps : Chain Does old first new
  pub told : compiled ≡ new.compiled

-- If this is the code of a checked script: the thread exited under its name, its run of the script ended as it reports, and some frame was compiled if it reports so.
abbrev pub IsReport : List (List Op) → Reported → Type 0
IsReport code r = (bs : List Body) → code ≡ map routine bs → AreChecked bs
    → (r.exited ≡ Exit r.name) × EndsAs most (trace bs) r.ending r.made × HasMade (trace bs) r.name r.made r.compiled

abbrev pub ending_of : Outcome Refused → Result Ending Refused
ending_of outcome.Finished = Ok Finished
ending_of outcome.Overflow = Ok Overflow
ending_of outcome.OutOfFuel = Ok OutOfFuel
ending_of (outcome.Refused refused) = Err refused

-- The worker made this mark, as its first.
abbrev pub IsFirst : Mark → Working → Type 0
IsFirst m w = (s : Working) × (s.compiled ≡ false) × Does s m w

-- If this is the code of a checked script: the worker of the thread with this name has made the first mark, and the other marks are left in the runner.
abbrev pub IsBegun : List (List Op) → ℕ → Working → Runner → Type 0
IsBegun code name w r = (bs : List Body) → code ≡ map routine bs → AreChecked bs
    → (m : Mark) × (t : Trace) × (trace bs ≡ made m t) × (w.thread.name ≡ name) × Left r t × (made_by r ≡ 1) × IsFirst m w

-- The view of a task in contracts: the code that it runs, and the thread's name.
pub record Tasked : Type 0 where
  pub code : List (List Op)
  pub name : ℕ
