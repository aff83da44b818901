-- The words and the numbers of calls in a log.
use Rattle.std.specs.Prelude.{ℕ, List, [], ◌∷◌, ◌++◌, Option, Some, None}
use Rattle.operations.specs.declared.Ask.{Ask}
use Rattle.operations.specs.declared.Ask.TheVariants.{Depth, CountOf, Top}
use Rattle.operations.specs.declared.Request.{Request}
use Rattle.operations.specs.declared.Request.TheVariants.{Handshake, Census}
use Rattle.frames.specs.declared.CodeId.{CodeId}
use Rattle.call_log.specs.declared.word.Word.{Word}
use Rattle.call_log.specs.declared.word.Word.TheVariants as word

-- The place and the method of a call, and the serial of its hint if it has one.
abbrev pub called_with : ℕ → ℕ → Option CodeId → List ℕ
called_with place method None = place ∷ method ∷ []
called_with place method (Some code) = place ∷ method ∷ code.serial ∷ []

abbrev pub submit_word_of : Ask → Word
submit_word_of Depth = word.SubmitDepth
submit_word_of Top = word.SubmitTop
submit_word_of (CountOf serial) = word.SubmitCount

abbrev pub submit_word : Request → Word
submit_word Census = word.SubmitCensus
submit_word (Handshake targets ask) = submit_word_of ask

-- The serial that a query counts, if it counts one.
abbrev pub counted : Ask → List ℕ
counted Depth = []
counted Top = []
counted (CountOf serial) = serial ∷ []

abbrev pub request_numbers : Request → List ℕ
request_numbers Census = []
request_numbers (Handshake targets ask) = counted ask ++ targets

abbrev pub reclaim_word_of : Ask → Word
reclaim_word_of Depth = word.ReclaimDepth
reclaim_word_of Top = word.ReclaimTop
reclaim_word_of (CountOf serial) = word.ReclaimCount

abbrev pub reclaim_word : Option Request → Word
reclaim_word None = word.Reclaim
reclaim_word (Some Census) = word.Reclaim
reclaim_word (Some (Handshake targets ask)) = reclaim_word_of ask

abbrev pub handshake_numbers : Option Request → List ℕ
handshake_numbers None = []
handshake_numbers (Some request) = request_numbers request

-- A list of pairs, flattened to numbers.
abbrev pub pairs : List (ℕ × ℕ) → List ℕ
pairs [] = []
pairs (p ∷ ps) = p.0 ∷ p.1 ∷ pairs ps
