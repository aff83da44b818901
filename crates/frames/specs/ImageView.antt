-- What a contract sees of an image of a stack.
use Rattle.std.specs.Prelude.{◌≡◌, ◌≢◌, ℕ, [], ◌∷◌, count_by, pos, ◌+ℤ◌, nat_le, length, is_some, Bool, false, not, ◌||◌, ◌==◌, List, ◌++◌, filter, Option, Some, None, if◌then◌else◌}
use Rattle.frames.specs.declared.CodeId.{CodeId}
use Rattle.frames.specs.declared.Frame.{Frame}
use Rattle.frames.specs.declared.Change.{Change}
use Rattle.frames.specs.declared.PushFault.{PushFault}
use Rattle.frames.specs.declared.PushFault.TheVariants as push
use Rattle.frames.specs.declared.PopFault.{PopFault}
use Rattle.frames.specs.declared.PopFault.TheVariants as pop
use Rattle.frames.specs.declared.EndFault.{EndFault}
use Rattle.frames.specs.declared.EndFault.TheVariants as ends
use Rattle.frames.specs.Stack.{same_code, code_lt, act, codes_of, times, is_among}
use Rattle.frames.specs.Least.{least}

-- The frames; the counted codes as a bag (only how often each code is in it matters); the codes
-- already changed in the open publication (only which they are matters); and whether one is open.
pub record ImageView : Type 0 where
  pub frames : List Frame
  pub counted : List CodeId
  pub changed : List CodeId
  pub publishing : Bool

-- two bags are one
abbrev pub SameBag : List CodeId → List CodeId → Type 0
SameBag one other = (code : CodeId) → times code one ≡ times code other

-- a code has other counts in the stack and in the bag
abbrev pub is_uncounted : List Frame → List CodeId → CodeId → Bool
is_uncounted frames counted code = not (act code frames == times code counted)

-- the codes whose counts differ, with repetitions
abbrev pub uncounted : List Frame → List CodeId → List CodeId
uncounted frames counted = filter (is_uncounted frames counted) (codes_of frames ++ counted)

-- the code that is changed next
abbrev pub next_code : ImageView → Option CodeId
next_code image = least (uncounted image.frames image.counted)

-- every code has as many frames as are counted
abbrev pub IsCounted : ImageView → Type 0
IsCounted image = (code : CodeId) → act code image.frames ≡ times code image.counted

-- the code's counts differ
abbrev pub Differs : ImageView → CodeId → Type 0
Differs image code = act code image.frames ≢ times code image.counted

-- the code is the least whose counts differ, and where there is none every code is counted
abbrev pub IsNext : ImageView → Option CodeId → Type 0
IsNext image None = IsCounted image
IsNext image (Some code) = Differs image code × ((other : CodeId) → Differs image other → code_lt other code ≡ false)

-- the codes without their repetitions
abbrev pub distinct : List CodeId → List CodeId
distinct [] = []
distinct (code ∷ codes) = if is_among code codes then distinct codes else code ∷ distinct codes

-- how many codes have counts that differ
abbrev pub unsettled : ImageView → ℕ
unsettled image = length (distinct (uncounted image.frames image.counted))

-- how often a code of the serial is in a bag
abbrev pub serial_times : ℕ → List CodeId → ℕ
serial_times serial bag = count_by (λ code. code.serial == serial) bag

-- the image has the same bag and the same publication, and other frames
pub record HasFrames (old new : ImageView) (frames : List Frame) : Type 0 where
  pub frames_are : new.frames ≡ frames
  pub counted_stay : SameBag new.counted old.counted
  pub changed_stay : new.changed ≡ old.changed
  pub publishing_stays : new.publishing ≡ old.publishing

-- the code's count moves to the number of its frames, and no other count does; the code joins the
-- changed ones
pub record Counts (old new : ImageView) (change : Change) : Type 0 where
  pub frames_stay : new.frames ≡ old.frames
  pub publishing_stays : new.publishing ≡ old.publishing
  pub by : pos (times change.code old.counted) +ℤ change.by ≡ pos (act change.code old.frames)
  pub moved : times change.code new.counted ≡ act change.code old.frames
  pub others : (code : CodeId) → same_code code change.code ≡ false → times code new.counted ≡ times code old.counted
  pub grown : (code : CodeId) → is_among code new.changed ≡ (same_code code change.code || is_among code old.changed)

-- no publication is open, and every frame is counted
abbrev pub IsSettled : ImageView → Type 0
IsSettled image = (image.publishing ≡ false) × IsCounted image

-- why a frame isn't pushed: the first cause
abbrev pub push_fault : ImageView → Option PushFault
push_fault image =
    if nat_le 256 (length image.frames) then Some push.DepthFull
    else if image.publishing then Some push.Publishing
    else None

-- why no frame is popped: the first cause
abbrev pub pop_fault : ImageView → Option PopFault
pop_fault image =
    if length image.frames == 0 then Some pop.EmptyStack
    else if image.publishing then Some pop.Publishing
    else None

-- why a publication isn't ended: the first cause
abbrev pub end_fault : ImageView → Option EndFault
end_fault image =
    if not image.publishing then Some ends.NotBegun
    else if is_some (next_code image) then Some ends.ChangesLeft
    else None
