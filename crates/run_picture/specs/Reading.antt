-- A run, while its bytes are read.
use Rattle.std.specs.Prelude.{◌≡◌, ◌⊎◌, ◌^◌, ◌-◌, ℕ, List, [], ◌∷◌, ◌++◌, length, take, ◌==◌, if◌then◌else◌, Option, None, Result, Ok, Err}
use Rattle.std.specs.Io.KnownBytes.{Consumes, IsAtEnd}
use Rattle.system.specs.World.{World}
use Rattle.replay.specs.declared.stream.ReplayFault.{ReplayFault}
use Rattle.replay.specs.declared.stream.ReplayFault.TheVariants.{ReadFailed, WriteFailed, NoMemory}
use Rattle.replay.specs.Text.{SystemView, IsAt, after_line}
use Rattle.replay.specs.Words.{lines}
use Rattle.run_picture.specs.declared.part.Part.{Part}
use Rattle.run_picture.specs.Told.{Told, Shown, Seen, IsTold, drawn_from}
use Rattle.run_picture.specs.Marks.{told_line, told_lines}

-- The marks for a rest without a newline: one if it is a line, which is so unless it is empty.
abbrev pub told_rest : Option World → List ℕ → List Told
told_rest world [] = []
told_rest world (b ∷ held) = told_line world (b ∷ held) ∷ []

-- The marks for the lines of the bytes to come, where `held` of the first line was already read.
abbrev pub told_from : Option World → List ℕ → List ℕ → List Told
told_from world held [] = told_rest world held
told_from world held (b ∷ bytes) =
    if b == 10 then told_line world held ∷ told_from (after_line world held) [] bytes
    else told_from world (take 1025 (held ++ b ∷ [])) bytes

-- Reading the bytes changes no mark: the marks so far, followed by those of all later bytes, are the same before and after.
pub record ReadIn (world : Option World) (part : Part) (held : List ℕ) (all : List Told) (bytes : List ℕ) (system : Option SystemView) (held' : List ℕ) (seen' : Seen) : Type 0 where
  pub next : Option World
  pub at : IsAt system next
  pub told : List Told
  pub seen : IsTold part seen' told
  pub same : (more : List ℕ) → all ++ told_from world held (bytes ++ more) ≡ told ++ told_from next held' more

-- The bytes were read.
abbrev pub Read : Option SystemView → List ℕ → Seen → List ℕ → Option SystemView → List ℕ → Seen → Type 0
Read old held seen bytes new held' seen' = (world : Option World) (part : Part) (all : List Told) → IsAt old world → IsTold part seen all → ReadIn world part held all bytes new held' seen'

-- The held line has got its mark.
abbrev pub Noted : Option SystemView → List ℕ → Seen → Option SystemView → Seen → Type 0
Noted old held seen new seen' = (world : Option World) (part : Part) (all : List Told) → IsAt old world → IsTold part seen all → IsTold part seen' (all ++ told_line world held ∷ []) × IsAt new (after_line world held)

-- The last line has got its mark, if there is one.
abbrev pub Finished : Option SystemView → List ℕ → Seen → Seen → Type 0
Finished old held seen seen' = (world : Option World) (part : Part) (all : List Told) → IsAt old world → IsTold part seen all → IsTold part seen' (all ++ told_rest world held)

-- What has been read so far.
pub record SoFar (left left' : Option (List ℕ)) (part : Part) (system : Option SystemView) (held : List ℕ) (seen : Seen) : Type 0 where
  pub read : List ℕ
  pub consumed : Consumes left left' read
  pub reads : ReadIn None part [] [] read system held seen

-- The input was read to its end, and each line of the part has its mark, with the line and its answer.
pub record Marked (left left' : Option (List ℕ)) (part : Part) (shown : List Shown) : Type 0 where
  pub read : List ℕ
  pub consumed : Consumes left left' read
  pub at_end : IsAtEnd left'
  pub each : shown ≡ drawn_from part 1 (told_lines None (lines read))

-- How many reads failed, by the call's result.
abbrev pub FailedReads : {A : Type 0} → Result A ReplayFault → ℕ → ℕ → Type 0
FailedReads (Ok x) reads failed = failed ≡ 0
FailedReads (Err ReadFailed) reads failed = (failed ≡ 1) ⊎ (reads ≡ 2 ^ 40 - 1)
FailedReads (Err WriteFailed) reads failed = ⊥
FailedReads (Err NoMemory) reads failed = failed ≡ 0
