-- The record of a code that isn't entrant, and the test of a look.
use Rattle.std.specs.Prelude.{ℕ, Bool, true, false, not, ◌||◌, nat_lt, replicate, slice_set, Option, Some, None, Result, Ok, Err, if◌then◌else◌}
use Rattle.method_table.specs.declared.Code.{Code}
use Rattle.method_table.specs.Codes.{is_not_entrant}
use Rattle.system.specs.declared.answers.Refusal.{Refusal}
use Rattle.system.specs.declared.answers.Refusal.TheVariants.{Unknown, NotNotEntrant}
use Rattle.system.specs.declared.records.Record.{Record}
use Rattle.system.specs.declared.thread.Thread.{Thread as Kept}

-- A record of an invalidation at this moment, without looks.
abbrev pub new_record : ℕ → Record
new_record left = record { left = left; looked = replicate 64 false }

-- The record with a Clear look at the place.
abbrev pub with_look : Record → ℕ → Record
with_look r place = record r { looked = slice_set r.looked place true }

-- Look and Weigh need a code that is not entrant.
abbrev pub not_entrant : Option Code → Result Code Refusal
not_entrant None = Err Unknown
not_entrant (Some code) = if is_not_entrant code.state then Ok code else Err NotNotEntrant

-- The place has no published stack, or the last ended publication began in a later moment.
abbrev pub is_clear : ℕ → Option Kept → Bool
is_clear left None = true
is_clear left (Some kept) = not kept.published || nat_lt left kept.moments.stored
