-- How a text is read as a log.
use Rattle.std.specs.Prelude.{◌≡◌, ℕ, ◌+◌, ◌^◌, ◌<◌, ◌≤◌, nat_lt, Bool, true, false, ◌&&◌, ◌||◌, bytes_eq, codes, length, take, drop, List, ◌++◌, Option, Some, None, if◌then◌else◌}
use Rattle.std.specs.Borrow.{Bor}
use Rattle.std.specs.List.{All}
use Rattle.call_log.specs.declared.tokens.Token.{Token}
use Rattle.call_log.specs.declared.entry.Entry.{Entry}
use Rattle.call_log.specs.declared.faults.Fault.{Fault}
use Rattle.call_log.specs.declared.faults.Fault.TheVariants as fault
use Rattle.call_log.specs.declared.log.Log.{Log}
use Rattle.call_log.specs.declared.reading.Header.{Header}
use Rattle.call_log.specs.declared.reading.ReadFault.{ReadFault}
use Rattle.call_log.specs.declared.reading.ReadFault.TheVariants as read
use Rattle.call_log.specs.declared.reading.LineFault.{LineFault}
use Rattle.call_log.specs.declared.reading.LineFault.TheVariants as of_line
use Rattle.call_log.specs.Tokens.{tokens_of, end_of}
use Rattle.call_log.specs.Faults.{at, line_fault, or_else}
use Rattle.call_log.specs.Entries.{number_in, entry_of}
use Rattle.call_log.specs.Spelled.{line_text, first_text, size_text, header_text, calls_text}

abbrev pub spelling_fault : List ℕ → Option Fault
spelling_fault line = if bytes_eq (line_text (entry_of (tokens_of line))) line then None else Some fault.Spelling

-- The first fault of a line.
abbrev pub fault_of : List ℕ → Option Fault
fault_of line = if nat_lt 65536 (length line) then Some fault.Long else or_else (line_fault (tokens_of line)) (spelling_fault line)

abbrev pub IsFaultOf : List ℕ → LineFault → Type 0
IsFaultOf line (of_line.Bad f) = fault_of line ≡ Some f
IsFaultOf line of_line.NoMemory = Unit {0}

-- The line of this call has no fault.
abbrev pub IsCall : Entry → Type 0
IsCall call = fault_of (line_text call) ≡ None

-- The first line, and the text after its newline.
abbrev pub cut : List ℕ → Option (List ℕ × List ℕ)
cut bytes = if nat_lt (end_of bytes) (length bytes) then Some (take (end_of bytes) bytes, drop (end_of bytes + 1) bytes) else None

abbrev pub cut_seen : Option (Bor (List ℕ) × Bor (List ℕ)) → Option (List ℕ × List ℕ)
cut_seen None = None
cut_seen (Some parts) = Some (parts.0.now, parts.1.now)

abbrev pub first_fault : Option (List ℕ × List ℕ) → Option Fault
first_fault None = Some fault.Cut
first_fault (Some parts) = fault_of parts.0

-- The line of this number has the fault, and all lines before it are lines of calls without a fault.
pub record FaultAt (text : List ℕ) (number : ℕ) (wrong : Fault) : Type 0 where
  pub calls : List Entry
  pub are_calls : All IsCall calls
  pub rest : List ℕ
  pub text_is : text ≡ calls_text calls ++ rest
  pub number_is : number ≡ length calls + 3
  pub fault_is : first_fault (cut rest) ≡ Some wrong

pub record HasTooMany (text : List ℕ) : Type 0 where
  pub calls : List Entry
  pub are_calls : All IsCall calls
  pub rest : List ℕ
  pub text_is : text ≡ calls_text calls ++ rest
  pub many : 2 ^ 20 ≤ length calls
  pub more : 0 < length rest

-- Why the lines after the header can't be read.
abbrev pub StandsIn : List ℕ → ReadFault → Type 0
StandsIn text read.Header = ⊥
StandsIn text (read.Line number wrong) = FaultAt text number wrong
StandsIn text read.TooMany = HasTooMany text
StandsIn text read.NoMemory = Unit {0}

abbrev pub number_at : List Token → ℕ → ℕ
number_at tokens i = number_in (at tokens i)

abbrev pub size_of : List ℕ → List ℕ
size_of second = size_text (number_at (tokens_of second) 1) (number_at (tokens_of second) 2) (number_at (tokens_of second) 3)

-- The two lines are the header of a log.
abbrev pub is_header : List ℕ → List ℕ → Bool
is_header first second = (bytes_eq first (codes "witness 1 jobs") || bytes_eq first (codes "witness 1")) && bytes_eq (size_of second) second

pub record IsHeader (first second : List ℕ) (header : Header) : Type 0 where
  pub first_is : first ≡ first_text header.jobs
  pub second_is : second ≡ size_text header.places header.slots header.methods
  pub is : is_header first second ≡ true

abbrev pub has_second : List ℕ → Option (List ℕ × List ℕ) → Bool
has_second first None = false
has_second first (Some parts) = is_header first parts.0

abbrev pub has_first : Option (List ℕ × List ℕ) → Bool
has_first None = false
has_first (Some parts) = has_second parts.0 (cut parts.1)

-- The text of a log.
abbrev pub log_text : Log → List ℕ
log_text log = header_text log.jobs log.places log.slots log.methods ++ calls_text log.calls.items

-- The header is correct, and the calls after it can't be read.
pub record BehindHeader (text : List ℕ) (wrong : ReadFault) : Type 0 where
  pub header : Header
  pub rest : List ℕ
  pub text_is : text ≡ header_text header.jobs header.places header.slots header.methods ++ rest
  pub stands : StandsIn rest wrong

-- Why a text can't be read.
abbrev pub IsReadFault : List ℕ → ReadFault → Type 0
IsReadFault text read.Header = has_first (cut text) ≡ false
IsReadFault text (read.Line number wrong) = BehindHeader text (read.Line number wrong)
IsReadFault text read.TooMany = BehindHeader text read.TooMany
IsReadFault text read.NoMemory = Unit {0}
