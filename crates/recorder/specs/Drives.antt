-- The entries of a coordinator's drives.
use Rattle.std.specs.Prelude.{ℕ, List, [], ◌∷◌, Option, Some, None}
use Rattle.call_log.specs.declared.word.Word.{Word}
use Rattle.call_log.specs.declared.word.Word.TheVariants as word
use Rattle.coordinator.specs.declared.faults.Driven.{Driven}
use Rattle.coordinator.specs.declared.faults.Driven.TheVariants.{Handshake, Census}
use Rattle.coordinator.specs.declared.faults.DriveFault.{DriveFault}
use Rattle.coordinator.specs.declared.faults.DriveFault.TheVariants.{QueueEmpty, NoMemory}
use Rattle.recorder.specs.declared.short.Short.{Short}
use Rattle.recorder.specs.Short.{only}
use Rattle.recorder.specs.Calls.{pairs}
use Rattle.recorder.specs.Streams.{Streaming, IsLost, Notes}

-- The word and the numbers for a request that was driven to its Close.
abbrev pub drove : Driven → Word
drove (Handshake n) = word.Handshake
drove (Census n list) = word.Census

abbrev pub drove_numbers : Driven → List ℕ
drove_numbers (Handshake n) = n ∷ []
drove_numbers (Census n list) = n ∷ pairs list.items

-- The answer of a drive that is refused; None if memory was refused.
abbrev pub drive_refusal : DriveFault → Option Short
drive_refusal QueueEmpty = Some (only word.QueueEmpty)
drive_refusal NoMemory = None

-- The entry of a refused drive. If memory was refused the stream is lost, since a census may be open that no entry shows.
abbrev pub NotesRefused : Streaming → Streaming → Word → DriveFault → Type 0
NotesRefused old new what QueueEmpty = Notes old new what [] (drive_refusal QueueEmpty)
NotesRefused old new what NoMemory = IsLost old new
