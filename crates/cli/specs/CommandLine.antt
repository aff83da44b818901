-- What the command line asks for.
use Rattle.std.specs.Prelude.{ℕ, zero, suc, ◌<◌, ◌≤◌, ◌&&◌, codes, decimal, bytes_eq, List, [], ◌∷◌, Option, Some, None, option_map, if◌then◌else◌, ⊤}
use Rattle.cli.specs.declared.command_line.Form.{Form}
use Rattle.cli.specs.declared.command_line.Form.TheVariants as form

-- Answer lines, check the script in the named file, or run it on this many threads.
pub data Asked : Type 0 where
  replay : Asked
  check : List ℕ → Asked
  run : List ℕ → ℕ → Asked

-- The specification's view of `Form` in `src/`.
abbrev pub form_view : Form → Asked
form_view form.Replay = replay
form_view (form.Check file) = check file.now
form_view (form.Run file threads) = run file.now threads

-- The number from one to n that has this spelling; None if none has.
unfoldable pub spelled : ℕ → List ℕ → Option ℕ
spelled zero word = None
spelled (suc n) word = if bytes_eq (decimal (suc n)) word then Some (suc n) else spelled n word

-- The most threads, and the number of threads if the command line gives none.
abbrev pub most_threads : ℕ
most_threads = 64

abbrev pub default_threads : ℕ
default_threads = 4

-- A run has 1 to 64 threads.
abbrev pub HasThreads : Form → Type 0
HasThreads (form.Run file threads) = (0 < threads) × (threads ≤ most_threads)
HasThreads other = ⊤

-- What the arguments after the program's name ask for; None if they are bad.
abbrev pub form_of : List (List ℕ) → Option Asked
form_of [] = None
form_of (word ∷ []) = if bytes_eq word (codes "replay") then Some replay else None
form_of (word ∷ file ∷ []) =
    if bytes_eq word (codes "check") then Some (check file) else if bytes_eq word (codes "run") then Some (run file default_threads) else None
form_of (word ∷ file ∷ flag ∷ []) = None
form_of (word ∷ file ∷ flag ∷ count ∷ []) =
    if bytes_eq word (codes "run") && bytes_eq flag (codes "--threads") then option_map (run file) (spelled most_threads count) else None
form_of (word ∷ file ∷ flag ∷ count ∷ more ∷ words) = None
