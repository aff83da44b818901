-- What the words of the command line ask for.
use Rattle.std.specs.Prelude.{ℕ, ◌+◌, ◌&&◌, nat_le, codes, bytes_eq, List, [], ◌∷◌, Option, Some, None, option_map, option_and_then, if◌then◌else◌}
use Rattle.replay.specs.Words.{number}
use Rattle.run_picture.specs.declared.part.Part.{Part}
use Rattle.run_picture.specs.declared.picture.Asked.{Asked}
use Rattle.run_picture.specs.declared.picture.Form.{Form}
use Rattle.run_picture.specs.declared.picture.Form.TheVariants.{Picture, Page}

-- The number of a line that a word spells, from 1 on, spelled as numbers in lines.
abbrev pub line_of : List ℕ → Option ℕ
line_of word = option_and_then (λ n. if nat_le 1 n then Some n else None) (number word)

-- From one line to the end.
abbrev pub since : ℕ → Part
since first = record { from = first; end = None }

-- From one line to another, which must not be before it.
abbrev pub between : ℕ → ℕ → Option Part
between first last = if nat_le first last then Some (record { from = first; end = Some (last + 1) }) else None

-- The part that the words after the form ask for; None if they are bad.
abbrev pub part_of : List (List ℕ) → Option Part
part_of [] = Some (since 1)
part_of (flag ∷ []) = None
part_of (flag ∷ line ∷ []) =
    if bytes_eq flag (codes "--from") then option_map since (line_of line) else
    if bytes_eq flag (codes "--to") then option_and_then (between 1) (line_of line) else None
part_of (flag ∷ line ∷ second ∷ []) = None
part_of (flag ∷ line ∷ second ∷ last ∷ []) =
    if bytes_eq flag (codes "--from") && bytes_eq second (codes "--to")
    then option_and_then (λ from. option_and_then (between from) (line_of last)) (line_of line)
    else None
part_of (flag ∷ line ∷ second ∷ last ∷ more ∷ words) = None

abbrev pub asked_as : Form → Option Part → Option Asked
asked_as form part = option_map (λ (lines : Part). record { form = form; part = lines }) part

-- The request of the words after the program's name; None if they are bad.
abbrev pub asked_of : List (List ℕ) → Option Asked
asked_of [] = asked_as Picture (part_of [])
asked_of (word ∷ words) =
    if bytes_eq word (codes "--html") then asked_as Page (part_of words) else asked_as Picture (part_of (word ∷ words))
