-- The rule of a code board. It holds between any two steps of its seats.
use Rattle.std.specs.Prelude.{◌≡◌, ◌≢◌, ◌⊎◌, ℕ, zero, suc, ◌+◌, ◌^◌, ◌<◌, ◌≤◌, Bool, true, false}
use Rattle.frames.specs.declared.CodeId.{CodeId}
use Rattle.frames.specs.declared.board_rule.EntryState.{EntryState}
use Rattle.frames.specs.declared.board_rule.EntryState.TheVariants.{InUse, NotEntrant, Zombie, Vacant}
use Rattle.frames.specs.BoardWords.{Word, entry_of, count_of, place_of, the_moment, pack}

-- What the keeper knows of a slot: the code of its entry, the moment of that code's invalidation (0 for none), the places
-- that were looked at for it, and whether it was weighed clear.
pub record SlotState : Type 0 where
  pub serial : ℕ
  pub state : EntryState
  pub left : ℕ
  pub looked : ℕ → Bool
  pub clear : Bool

-- What the seat of a place knows: how often it counts each code, the codes that it entered since its last publication ended,
-- the moment that it read for a publication (0 for none), the moment that it stored (0 for none), and the codes that it
-- found no longer in use.
pub record SeatState : Type 0 where
  pub counted : CodeId → ℕ
  pub fresh : CodeId → Bool
  pub moment : ℕ
  pub stored : ℕ
  pub gone : CodeId → Bool

-- The words, the keeper's moment and slots, and the seats of the places.
pub record BoardState : Type 0 where
  pub word : Word → ℕ
  pub now : ℕ
  pub slot : ℕ → SlotState
  pub seat : ℕ → SeatState

abbrev pub code : ℕ → ℕ → CodeId
code k serial = record { slot = k; serial = serial }

-- the code that the keeper has in the slot
abbrev pub code_at : BoardState → ℕ → CodeId
code_at b k = code k (b.slot k).serial

-- the sum of f below n
abbrev pub total : ℕ → (ℕ → ℕ) → ℕ
total zero f = 0
total (suc n) f = total n f + f n

-- activations of the code may stand
abbrev pub IsLive : EntryState → Type 0
IsLive state = (state ≡ InUse) ⊎ (state ≡ NotEntrant)

-- the code stands in the entry of its slot, in use or not entrant
abbrev pub IsStanding : ℕ → BoardState → CodeId → Type 0
IsStanding slots b c = (c.slot < slots) × ((b.slot c.slot).serial ≡ c.serial) × IsLive (b.slot c.slot).state

-- the seat counts the code, or entered it since its last publication
abbrev pub IsHeldBy : SeatState → CodeId → Type 0
IsHeldBy t c = (0 < t.counted c) ⊎ (t.fresh c ≡ true)

-- the slot has a greater serial than the code's, or that serial and not in use
abbrev pub IsPast : SlotState → CodeId → Type 0
IsPast s c = (c.serial < s.serial) ⊎ ((s.serial ≡ c.serial) × (s.state ≢ InUse))

-- A place: its word is the moment that its seat stored. Neither that nor the moment that was read is later than now.
-- A seat that has nothing stored counts nothing, and nothing is fresh.
pub record IsPlaceKept (now word : ℕ) (t : SeatState) : Type 0 where
  pub word_is : word ≡ t.stored
  pub stored_by : t.stored ≤ now
  pub moment_by : t.moment ≤ now
  pub uncounted : t.stored ≡ 0 → (c : CodeId) → t.counted c ≡ 0
  pub unfresh : t.stored ≡ 0 → (c : CodeId) → t.fresh c ≡ false

-- What was looked and weighed for the code of the slot k: nothing while it is in use. Where a place was looked at, the code
-- isn't fresh there. Where it was weighed clear, no seat counts it and it is nowhere fresh.
pub record IsLookKept (places : ℕ) (b : BoardState) (k : ℕ) : Type 0 where
  pub unlooked : (b.slot k).state ≡ InUse → (p : ℕ) → (b.slot k).looked p ≡ false
  pub unclear : (b.slot k).state ≡ InUse → (b.slot k).clear ≡ false
  pub looked_unfresh : (p : ℕ) → p < places → (b.slot k).looked p ≡ true → (b.seat p).fresh (code_at b k) ≡ false
  pub clear_uncounted : (b.slot k).clear ≡ true → (p : ℕ) → p < places → (b.seat p).counted (code_at b k) ≡ 0
  pub clear_unfresh : (b.slot k).clear ≡ true → (p : ℕ) → p < places → (b.seat p).fresh (code_at b k) ≡ false

-- A code that was invalidated, and isn't freed, has the moment at which it was: from 1 to now. A code in use has none.
pub record IsLeftKept (now : ℕ) (s : SlotState) : Type 0 where
  pub none : s.state ≡ InUse → s.left ≡ 0
  pub some : (s.state ≡ NotEntrant) ⊎ (s.state ≡ Zombie) → (0 < s.left) × (s.left ≤ now)

-- The rule of a board of so many slots and places
pub record IsBoardKept (slots places : ℕ) (b : BoardState) : Type 0 where
  -- the entry word of each slot says the keeper's serial and state; the word of the moment is the keeper's moment, which isn't 0
  pub keeper_words : ((k : ℕ) → k < slots → b.word (entry_of k) ≡ pack (b.slot k).serial (b.slot k).state) × (b.word the_moment ≡ b.now) × (0 < b.now)
  -- each place's word is what its seat stored, and a seat that stored nothing has no code
  pub place_words : (p : ℕ) → p < places → IsPlaceKept b.now (b.word (place_of p)) (b.seat p)
  -- a code that is counted or fresh stands in its slot, in use or not entrant
  pub held_stands : (p : ℕ) → p < places → (c : CodeId) → IsHeldBy (b.seat p) c → IsStanding slots b c
  -- a fresh code is in use, or it was invalidated at a moment not before the one that its seat stored
  pub fresh_late : (p : ℕ) → p < places → (c : CodeId) → (b.seat p).fresh c ≡ true → ((b.slot c.slot).state ≡ InUse) ⊎ ((b.seat p).stored ≤ (b.slot c.slot).left)
  -- the count word of each slot is the sum over the seats of how often they count its code; a seat counts a code at most 256 times
  pub counts : ((k : ℕ) → k < slots → b.word (count_of k) ≡ total places (λ p. (b.seat p).counted (code_at b k))) × ((p : ℕ) → p < places → (c : CodeId) → (b.seat p).counted c ≤ 256)
  -- what was looked and weighed for a code is so
  pub looks : (k : ℕ) → k < slots → IsLookKept places b k
  -- a code that a seat found gone is past in its slot
  pub gone_past : (p : ℕ) → p < places → (c : CodeId) → (b.seat p).gone c ≡ true → (c.slot < slots) × IsPast (b.slot c.slot) c
  -- each code has its moment of invalidation, or none
  pub lefts : (k : ℕ) → k < slots → IsLeftKept b.now (b.slot k)
  -- moments and serials stay below 2^40
  pub bounds : (b.now < 2 ^ 40) × ((k : ℕ) → k < slots → (b.slot k).serial < 2 ^ 40)

-- the sum over the seats of what they count in the slot, over all serials below the bound
abbrev pub counted_in : ℕ → ℕ → BoardState → ℕ → ℕ
counted_in places bound b k = total places (λ p. total bound (λ serial. (b.seat p).counted (code k serial)))

-- A new board: vacant slots and places, and the moment 1.
abbrev pub first_slot : SlotState
first_slot = record { serial = 0; state = Vacant; left = 0; looked = λ p. false; clear = false }

abbrev pub first_seat : SeatState
first_seat = record { counted = λ c. 0; fresh = λ c. false; moment = 0; stored = 0; gone = λ c. false }

abbrev pub first_word : Word → ℕ
first_word (entry_of k) = pack 0 Vacant
first_word (count_of k) = 0
first_word (place_of p) = 0
first_word the_moment = 1

abbrev pub first_board : BoardState
first_board = record { word = first_word; now = 1; slot = λ k. first_slot; seat = λ p. first_seat }
