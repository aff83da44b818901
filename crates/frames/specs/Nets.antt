-- Nets: codes with how many frames each has more than are counted, rising by serial and then by slot.
use Rattle.std.specs.Prelude.{◌≡◌, ℕ, zero, suc, ℤ, pos, negsuc, ◌+ℤ◌, ◌-ℤ◌, ◌≤ℤ◌, ◌≤◌, ◌==◌, ◌+◌, ◌<◌, ◌%◌, slice_index_or, length, Bool, true, false, not, List, [], ◌∷◌, ◌++◌, map, filter, replicate, Option, Some, None, if◌then◌else◌}
use Rattle.std.specs.List.{All, list_any}
use Rattle.frames.specs.declared.CodeId.{CodeId}
use Rattle.frames.specs.declared.Frame.{Frame}
use Rattle.frames.specs.declared.Change.{Change}
use Rattle.frames.specs.Stack.{same_code, code_lt, act, codes_of, times}
use Rattle.frames.specs.Kept.{upto}

-- the net of a code, 0 where it has none
abbrev pub net_in : List Change → CodeId → ℤ
net_in [] code = pos 0
net_in (e ∷ es) code = if same_code e.code code then e.by else net_in es code

abbrev pub is_zero : ℤ → Bool
is_zero (pos zero) = true
is_zero (pos (suc n)) = false
is_zero (negsuc n) = false

abbrev pub net_of : CodeId → ℤ → Change
net_of code by = record { code = code; by = by }

-- the net, unless it is 0, before the others
abbrev pub with_net : CodeId → ℤ → List Change → List Change
with_net code by es = if is_zero by then es else net_of code by ∷ es

-- the nets where that of the code has moved
abbrev pub add : List Change → CodeId → ℤ → List Change
add [] code by = net_of code by ∷ []
add (e ∷ es) code by =
    if code_lt e.code code then e ∷ add es code by
    else if same_code e.code code then with_net code (e.by +ℤ by) es
    else net_of code by ∷ e ∷ es

-- the nets after a move of a code by so much: as they are where that is 0
abbrev pub moved : List Change → CodeId → ℤ → List Change
moved es code by = if is_zero by then es else add es code by

-- the nets of moves in any order
abbrev pub settled : List Change → List Change
settled [] = []
settled (e ∷ es) = moved (settled es) e.code e.by

-- each code is above the one before, and no net is 0
abbrev pub IsRising : Option CodeId → List Change → Type 0
IsRising last [] = Unit {0}
IsRising last (e ∷ es) = (upto last e.code ≡ false) × (is_zero e.by ≡ false) × IsRising (Some e.code) es

-- the number, 0 below it
abbrev pub nat_of : ℤ → ℕ
nat_of (pos n) = n
nat_of (negsuc n) = 0

-- the codes
abbrev pub codes_in : List Change → List CodeId
codes_in es = map (λ e. e.code) es

-- what is counted of the frames where these nets are left
abbrev pub counted_by : List Frame → List Change → List CodeId
counted_by frames [] = codes_of frames
counted_by frames (e ∷ es) =
    replicate (nat_of (pos (act e.code frames) -ℤ e.by)) e.code ++ filter (λ code. not (same_code code e.code)) (counted_by frames es)

-- the first code
abbrev pub first_of : List Change → Option CodeId
first_of [] = None
first_of (e ∷ es) = Some e.code

-- a net is no less than -256, and no more than the frames
pub record IsWithin (net : ℤ) (frames : ℕ) : Type 0 where
  pub low : pos 0 ≤ℤ (net +ℤ pos 256)
  pub high : net ≤ℤ pos frames

-- the sum of the nets of the serial's codes
abbrev pub net_sum : ℕ → List Change → ℤ
net_sum serial [] = pos 0
net_sum serial (e ∷ es) = (if e.code.serial == serial then e.by else pos 0) +ℤ net_sum serial es

-- no net is below -256 or above 256
abbrev pub AreSmall : List Change → Type 0
AreSmall [] = Unit {0}
AreSmall (e ∷ es) = IsWithin e.by 256 × AreSmall es

-- the nets, and whether the list that is kept has them as they are here
pub record NetsView : Type 0 where
  pub entries : List Change
  pub flushed : Bool

-- how the net of one code moves that of another
abbrev pub by_code : CodeId → ℤ → CodeId → ℤ
by_code code by c = if same_code code c then by else pos 0

-- the nets of a code in all
abbrev pub total : List Change → CodeId → ℤ
total [] code = pos 0
total (e ∷ es) code = total es code +ℤ by_code e.code e.by code

-- each code stands in the list once
abbrev pub AreOnce : List Change → Type 0
AreOnce es = (code : CodeId) → times code (codes_in es) ≤ 1

-- the code stands at the place
pub record IsAt (es : List Change) (code : CodeId) (place : ℕ) : Type 0 where
  pub within : place < length es
  pub is : (d : Change) → (slice_index_or es place d).code ≡ code

-- the list has one net more; one of 0 may have made room for it
pub record IsPut (net : Change) (old new : List Change) : Type 0 where
  pub fits : length new ≤ 1024
  pub totals : (code : CodeId) → total new code ≡ total old code +ℤ by_code net.code net.by code
  pub codes : (code : CodeId) → times code (codes_in new) ≤ times code (codes_in old) + times code (net.code ∷ [])

-- which cell is that of the code's slot
abbrev pub cell_of : CodeId → ℕ
cell_of code = code.slot % 1024

-- what an empty cell has: a code of another cell
abbrev pub nothing_at : ℕ → Change
nothing_at place = record { code = record { slot = if place == 0 then 1 else 0; serial = 0 }; by = pos 0 }

-- the number is one of these
abbrev pub is_in : ℕ → List ℕ → Bool
is_in k ks = list_any (λ i. i == k) ks

-- each cell that has a code of its own is one of these
abbrev pub AreAmong : List Change → List ℕ → Type 0
AreAmong cells places = (k : ℕ) (d : Change) → k < 1024 → cell_of (slice_index_or cells k d).code ≡ k → is_in k places ≡ true

-- the list of the cells that may have codes
pub record AreTouched (cells : List Change) (touched : List ℕ) : Type 0 where
  pub among : AreAmong cells touched
  pub places : All (λ k. k < 1024) touched
  pub few : length touched ≤ 1024

-- each cell that has a net is one of these
abbrev pub AreNetsAmong : List Change → List ℕ → Type 0
AreNetsAmong cells places = (k : ℕ) (d : Change) → k < 1024 → is_zero (slice_index_or cells k d).by ≡ false → is_in k places ≡ true

-- no cell has a net
abbrev pub AreAtRest : List Change → Type 0
AreAtRest cells = (k : ℕ) (d : Change) → k < 1024 → is_zero (slice_index_or cells k d).by ≡ true

-- a net is where its code's cell is, or in the list, and no code has one in both
pub record AreCells (cells list : List Change) : Type 0 where
  pub long : length cells ≡ 1024
  pub home : (k : ℕ) (d : Change) → k < 1024 → is_zero (slice_index_or cells k d).by ≡ false → cell_of (slice_index_or cells k d).code ≡ k
  pub once : AreOnce list
  pub apart : (code : CodeId) (d : Change) → same_code (slice_index_or cells (cell_of code) d).code code ≡ true → is_zero (slice_index_or cells (cell_of code) d).by ≡ false → times code (codes_in list) ≡ 0

-- no code is in its cell and in the list, with a net or without
abbrev pub AreApart : List Change → List Change → Type 0
AreApart cells list = (code : CodeId) (d : Change) → same_code (slice_index_or cells (cell_of code) d).code code ≡ true → times code (codes_in list) ≡ 0

-- what is true of the cells, the touched ones and the list
pub record AreKept (cells : List Change) (touched : List ℕ) (places : ℕ) (list : List Change) (room : ℕ) (flushed : Bool) : Type 0 where
  pub cells_are : AreCells cells list
  pub touched_are : AreTouched cells touched
  pub has_places : 1024 ≤ places
  pub has_room : 2048 ≤ room
  pub fits : length list ≤ 1024
  pub small : (code : CodeId) → IsWithin (net_in (settled (cells ++ list)) code) 256
  pub few : length (settled (cells ++ list)) ≤ 512
  pub rising : flushed ≡ true → IsRising None list
  pub apart : flushed ≡ false → AreApart cells list
  pub at_rest : flushed ≡ true → AreAtRest cells
