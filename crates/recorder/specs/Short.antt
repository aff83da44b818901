-- Answers with one number at most.
use Rattle.std.specs.Prelude.{ℕ, List, [], ◌∷◌, Option, Some, None}
use Rattle.call_log.specs.declared.word.Word.{Word}
use Rattle.recorder.specs.declared.short.Short.{Short}

-- A word alone.
abbrev pub only : Word → Short
only w = record { word = w; value = None }

-- A word with a number.
abbrev pub with_number : Word → ℕ → Short
with_number w n = record { word = w; value = Some n }

abbrev pub refused : Option Word → Option Short
refused None = None
refused (Some w) = Some (only w)

abbrev pub values_in : Option ℕ → List ℕ
values_in None = []
values_in (Some n) = n ∷ []

-- The numbers of an answer.
abbrev pub values : Short → List ℕ
values said = values_in said.value
