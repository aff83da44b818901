-- What contracts see of a thread's body, what its type keeps, and what each call does.
use Rattle.std.specs.Prelude.{◌≡◌, ℕ, ◌+◌, ◌<◌, ◌≤◌, ◌==◌, Bool, true, false, cond, List, [], ◌∷◌, ◌++◌, length, Option, Some, None}
use Rattle.frames.specs.declared.CodeId.{CodeId}
use Rattle.frames.specs.declared.Frame.{Frame}
use Rattle.frames.specs.declared.Change.{Change}
use Rattle.frames.specs.declared.board_rule.SeatView.{SeatView}
use Rattle.frames.specs.Stack.{act, times}
use Rattle.frames.specs.ImageView.{ImageView, HasFrames, IsSettled, is_uncounted}
use Rattle.frames.specs.declared.board_rule.EntryState.TheVariants.{InUse}
use Rattle.frames.specs.BoardWords.{pack, entry_of}
use Rattle.frames.specs.BoardRule.{BoardState, IsBoardKept}
use Rattle.frames.specs.BoardViews.{entered, moment_read, stored_as, how_often, has_code, count_changed, IsHeld, IsStandingWord, seat_state}
use Rattle.thread_state.specs.declared.poll_rule.Watching.{Watching}
use Rattle.board.specs.Boards.{BoardId, SeatSeen}
use Rattle.poll.specs.Rows.{PollerSeen}
use Rattle.atomic_table.specs.Seated.{TableId}
use Rattle.bodies.specs.declared.body.Called.{Called}
use Rattle.bodies.specs.declared.body.Called.TheVariants.{Compiled, Interpreted}

-- what contracts see of a body
pub record BodyView : Type 0 where
  pub name : ℕ
  pub image : ImageView
  pub seat : SeatView
  pub poller : Watching

-- what contracts see of the seat and the poller of a place that no thread has
pub record SpareView : Type 0 where
  pub seat : SeatView
  pub poller : Watching

-- what contracts see of the seat and the poller of a place in their box
pub record SeatsView : Type 0 where
  pub seat : SeatSeen
  pub poller : PollerSeen

-- the image in a box, or the image of an empty stack if the box has none
abbrev pub image_of : List ImageView → ImageView
image_of [] = record { frames = []; counted = []; changed = []; publishing = false }
image_of (image ∷ others) = image

-- what the box of a place keeps while no thread has the place: no image, and room for one
abbrev pub IsVacant : List ImageView → ℕ → Type 0
IsVacant images room = (images ≡ []) × (1 ≤ room)

-- what a body keeps of its image and its seat
pub record IsFit (slots : ℕ) (image : ImageView) (seat : SeatView) : Type 0 where
  -- no stack is deeper
  pub few : length image.frames ≤ 256
  -- the image counts what the seat counted
  pub counted_is : (c : CodeId) → times c image.counted ≡ how_often seat.counted c
  -- a code with more frames than are counted was entered since the last publication
  pub more_is_fresh : (c : CodeId) → times c image.counted < act c image.frames → has_code seat.fresh c ≡ true
  -- each code has a slot of the board
  pub frame_slots : (c : CodeId) → 0 < act c image.frames → c.slot < slots
  pub counted_slots : (c : CodeId) → 0 < times c image.counted → c.slot < slots

-- what a seat without a body keeps: no moment is stored, and no code is counted
abbrev pub IsSpare : SeatView → Type 0
IsSpare seat = (seat.stored ≡ 0) × ((c : CodeId) → how_often seat.counted c ≡ 0)

-- the seat is of this board, the poller of this poll row, and both of the same place
abbrev pub IsPaired : BoardId → TableId → SeatSeen → PollerSeen → Type 0
IsPaired board row seat poller = (seat.board ≡ board) × (poller.table ≡ row) × (poller.seen.place ≡ seat.seen.place)

-- what a body keeps: it has one image, which fits its seat, and no publication is open
abbrev pub IsKept : ℕ → List ImageView → SeatView → Type 0
IsKept slots images seat = (length images ≡ 1) × IsFit slots (image_of images) seat × ((image_of images).publishing ≡ false)

abbrev pub frame : ℕ → Option CodeId → Frame
frame m code = record { method = m; code = code }

-- how a call runs in this code
abbrev pub called_in : Option CodeId → Called
called_in None = Interpreted
called_in (Some c) = Compiled c.serial

abbrev pub code_if : CodeId → Bool → Option CodeId
code_if c true = Some c
code_if c false = None

-- what a load of a code's entry shows: the entry of a code that the seat holds has this code, in use or not entrant; a code that the seat
-- once saw gone isn't found in use
abbrev pub Tells : SeatView → CodeId → ℕ → Type 0
Tells old c found = (IsHeld old c → IsStandingWord c found) × (has_code old.gone c ≡ true → (found == pack c.serial InUse) ≡ false)

-- Which code a call enters. Without a hint it enters none and makes no step. With a hint it loads the entry of the hint's code once, and
-- enters this code exactly if the load found it in use.
abbrev pub IsTried : SeatView → SeatView → Option CodeId → Option CodeId → Type 0
IsTried old new None code = (code ≡ None) × (new ≡ old)
IsTried old new (Some c) code = (found : ℕ) × (new ≡ entered old c found) × (code ≡ code_if c (found == pack c.serial InUse)) × Tells old c found

-- A call without a hint makes no step. A call with a hint makes one load of the code's entry. The call pushes one frame, which has the code
-- exactly if the load found it in use. If a frame of the stack has the code already, the load finds the code in use or not entrant. A code
-- that the seat once saw gone is never entered again.
abbrev pub IsCalled : BodyView → BodyView → ℕ → Option CodeId → Called → Type 0
IsCalled old new m None said = (said ≡ Interpreted) × (new.seat ≡ old.seat) × HasFrames old.image new.image (old.image.frames ++ frame m None ∷ [])
IsCalled old new m (Some c) said =
    (found : ℕ) × (new.seat ≡ entered old.seat c found) × (said ≡ called_in (code_if c (found == pack c.serial InUse)))
    × HasFrames old.image new.image (old.image.frames ++ frame m (code_if c (found == pack c.serial InUse)) ∷ [])
    × (0 < act c old.image.frames → IsStandingWord c found) × (has_code old.seat.gone c ≡ true → said ≡ Interpreted)

-- the seat after these changes, listed with the newest first, each with the count that its step found
abbrev pub all_changed : SeatView → List (Change × ℕ) → SeatView
all_changed t [] = t
all_changed t (x ∷ xs) = count_changed (all_changed t xs) x.0.code x.0.by x.1

abbrev pub changed : List (Change × ℕ) → List CodeId
changed [] = []
changed (x ∷ xs) = x.0.code ∷ changed xs

-- the changes of an image that a publication has made so far: each code that was uncounted at its start has been changed once, or is still
-- uncounted
pub record AreMade (old image : ImageView) (start seat : SeatView) (made : List (Change × ℕ)) : Type 0 where
  pub frames_stay : image.frames ≡ old.frames
  pub publishing_stays : image.publishing ≡ old.publishing
  pub seat_is : seat ≡ all_changed start made
  pub each : (c : CodeId) → times c (changed made) + cond (is_uncounted image.frames image.counted c) 1 0 ≡ cond {A = ℕ} (is_uncounted old.frames old.counted c) 1 0

-- all changes of a publication are made: every frame is counted, and the image and the seat still fit together
pub record AreCounted (old image : ImageView) (start seat : SeatSeen) : Type 0 where
  pub board_stays : seat.board ≡ start.board
  pub fit : IsFit start.board.slots image seat.seen
  pub changes : List (Change × ℕ)
  pub made : AreMade old image start.seen seat.seen changes
  pub settled : IsSettled image

-- a publication: a load of the board's moment, one step for each code whose counts differ, and a store of the loaded moment
pub record IsPublished (old new : BodyView) : Type 0 where
  pub moment : ℕ
  pub made : List (Change × ℕ)
  pub each_once : (c : CodeId) → times c (changed made) ≡ cond {A = ℕ} (is_uncounted old.image.frames old.image.counted c) 1 0
  pub seat_is : new.seat ≡ stored_as (all_changed (moment_read old.seat moment) made) moment
  pub steps_are : new.seat.steps ≡ old.seat.steps + 1 + length made + 1
  pub some_moment : 0 < moment
  pub stored_is : new.seat.stored ≡ moment
  pub frames_stay : new.image.frames ≡ old.image.frames
  pub settled : IsSettled new.image
  pub name_stays : new.name ≡ old.name
  pub place_stays : new.seat.place ≡ old.seat.place
  pub poller_stays : new.poller ≡ old.poller

-- whenever the board's rule holds, the entry of the code of each frame has this code, in use or not entrant
abbrev pub AreStanding : ImageView → SeatView → Type 0
AreStanding image seat =
    (slots places : ℕ) (b : BoardState) → IsBoardKept slots places b → seat.place < places → b.seat seat.place ≡ seat_state seat
    → (c : CodeId) → 0 < act c image.frames → IsStandingWord c (b.word (entry_of c.slot))
