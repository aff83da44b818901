-- A stream of bytes, cut into lines as the bytes arrive.
use Rattle.std.specs.Prelude.{◌≡◌, ℕ, List, [], ◌∷◌, ◌++◌, length, take, Option, Result, Ok, Err}
use Rattle.std.specs.List.{flat_map, AllByRecursion}
use Rattle.std.specs.Io.KnownBytes.{Appends}
use Rattle.system.specs.World.{World}
use Rattle.replay.specs.declared.stream.Halt.{Halt}
use Rattle.replay.specs.declared.stream.Halt.TheVariants as halt
use Rattle.replay.specs.declared.stream.ReplayFault.{ReplayFault}
use Rattle.replay.specs.declared.stream.ReplayFault.TheVariants.{ReadFailed, WriteFailed, NoMemory}
use Rattle.replay.specs.Scanned.{first_at}
use Rattle.replay.specs.Known.{AppendsPart, Grows}
use Rattle.replay.specs.Room.{LineTakes}
use Rattle.replay.specs.Text.{SystemView, IsAt, line_text, after_line, told}

-- The bytes have no newline.
abbrev pub IsPiece : List ℕ → Type 0
IsPiece bytes = first_at 10 bytes ≡ length bytes

-- A line with its end.
abbrev pub ended : List ℕ → List ℕ
ended line = line ++ 10 ∷ []

-- The bytes begin with these lines.
pub record Front (bytes : List ℕ) (lines : List (List ℕ)) (rest : List ℕ) : Type 0 where
  pub whole : bytes ≡ flat_map ended lines ++ rest
  pub each : AllByRecursion IsPiece lines

-- The bytes are these lines, and then less than a line.
pub record Splits (bytes : List ℕ) (lines : List (List ℕ)) (rest : List ℕ) : Type 0 where
  pub front : Front bytes lines rest
  pub partial : IsPiece rest

abbrev pub after_lines : Option World → List (List ℕ) → Option World
after_lines world [] = world
after_lines world (line ∷ lines) = after_lines (after_line world line) lines

-- The state of a stream: the system, the held beginning of a line as far as it matters, the answers that wait to be written, and the bytes
-- that the sink got, if it makes them known.
pub record Point : Type 0 where
  pub system : Option SystemView
  pub held : List ℕ
  pub waits : List ℕ
  pub got : Option (List ℕ)

-- A line was answered: its answer waits after the others.
abbrev pub Turned : Option SystemView → List ℕ → List ℕ → List ℕ → Option SystemView → Type 0
Turned old line waits waits' new = (world : Option World) → IsAt old world → (waits' ≡ waits ++ line_text world line) × IsAt new (after_line world line)

-- A stream was at this world, after the beginning `tail` of a line, with these answers waiting and got. It was fed the bytes, and its state
-- is `new`: tail and bytes are whole lines, each answered, and then less than a line, which is held as far as it matters.
pub record FedTo (world : Option World) (tail bytes waits : List ℕ) (got : Option (List ℕ)) (new : Point) : Type 0 where
  pub lines : List (List ℕ)
  pub rest : List ℕ
  pub splits : Splits (tail ++ bytes) lines rest
  pub holds : new.held ≡ take 1025 rest
  pub grows : Grows got waits new.got new.waits (told world lines)
  pub at : IsAt new.system (after_lines world lines)

-- Memory was refused at a line that takes memory: the lines before it are answered.
pub record StoppedIn (world : Option World) (bytes waits : List ℕ) (got : Option (List ℕ)) (waits' : List ℕ) (got' : Option (List ℕ)) : Type 0 where
  pub lines : List (List ℕ)
  pub line : List ℕ
  pub rest : List ℕ
  pub front : Front bytes (lines ++ line ∷ []) rest
  pub takes : LineTakes (after_lines world lines) line
  pub grows : Grows got waits got' waits' (told world lines)

-- A write failed: a beginning of the answers is written.
pub record BrokenIn (world : Option World) (bytes waits : List ℕ) (got got' : Option (List ℕ)) : Type 0 where
  pub lines : List (List ℕ)
  pub rest : List ℕ
  pub front : Front bytes lines rest
  pub part : AppendsPart got got' (waits ++ told world lines)

-- For each world that the system is at, and each beginning of a line of which this is held.
abbrev pub ForEachStart : Point → (Option World → List ℕ → Type 0) → Type 0
ForEachStart old P = (world : Option World) → IsAt old.system world → (tail : List ℕ) → IsPiece tail → old.held ≡ take 1025 tail → P world tail

-- The bytes were fed: they brought the stream from the one point to the other.
abbrev pub Fed : Point → List ℕ → Point → Type 0
Fed old bytes new = ForEachStart old (λ world tail. FedTo world tail bytes old.waits old.got new)

-- What holds after bytes were fed, by how the feeding ended: all was fed, memory was refused at a line, or a write failed.
abbrev pub FedBy : {A : Type 0} → Result A Halt → Point → List ℕ → Point → Type 0
FedBy (Ok x) old bytes new = Fed old bytes new
FedBy (Err halt.NoMemory) old bytes new = ForEachStart old (λ world tail. StoppedIn world (tail ++ bytes) old.waits old.got new.waits new.got)
FedBy (Err halt.WriteFailed) old bytes new = ForEachStart old (λ world tail. BrokenIn world (tail ++ bytes) old.waits old.got new.got)

-- Where memory was refused, the sink is as it was.
abbrev pub SinkKept : {A : Type 0} → Result A Halt → Option (List ℕ) → Option (List ℕ) → Type 0
SinkKept (Ok x) got got' = Unit {0}
SinkKept (Err halt.NoMemory) got got' = got' ≡ got
SinkKept (Err halt.WriteFailed) got got' = Unit {0}

-- How many writes failed.
abbrev pub failed_writes : Halt → ℕ
failed_writes halt.NoMemory = 0
failed_writes halt.WriteFailed = 1

-- A rest that isn't empty is a line.
abbrev pub last_of : List ℕ → List (List ℕ)
last_of [] = []
last_of (b ∷ bytes) = (b ∷ bytes) ∷ []

-- What holds after the last line, by how its answering ended. Nothing waited before.
abbrev pub Finished : {A : Type 0} → Result A ReplayFault → Option SystemView → List ℕ → Option (List ℕ) → Option (List ℕ) → Type 0
Finished (Ok x) old held got got' = (world : Option World) → IsAt old world → Appends got got' (told world (last_of held))
Finished (Err WriteFailed) old held got got' = (world : Option World) → IsAt old world → AppendsPart got got' (told world (last_of held))
Finished (Err NoMemory) old held got got' = (got' ≡ got) × ((world : Option World) → IsAt old world → LineTakes world held)
Finished (Err ReadFailed) old held got got' = ⊥

-- What is so after lines weren't answered, by the fault that is answered for that: for want of memory, what waits was written,
-- or a beginning of it.
abbrev pub GaveUp : Halt → ReplayFault → List ℕ → Option (List ℕ) → Option (List ℕ) → ℕ → Type 0
GaveUp halt.WriteFailed WriteFailed waits got got' failures = (got' ≡ got) × (failures ≡ 1)
GaveUp halt.NoMemory NoMemory waits got got' failures = Appends got got' waits × (failures ≡ 0)
GaveUp halt.NoMemory WriteFailed waits got got' failures = AppendsPart got got' waits × (failures ≡ 1)
GaveUp halt fault waits got got' failures = ⊥
