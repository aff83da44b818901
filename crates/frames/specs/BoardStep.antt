-- The kinds of step of a code board: where each is allowed, and what is after it.
use Rattle.std.specs.Prelude.{◌≡◌, ◌≢◌, ◌⊎◌, ℕ, ◌+◌, ◌-◌, ◌^◌, ◌<◌, ◌≤◌, nat_lt, ◌==◌, ◌&&◌, ◌||◌, if◌then◌else◌, Bool, true, false}
use Rattle.frames.specs.declared.CodeId.{CodeId}
use Rattle.frames.specs.Stack.{same_code}
use Rattle.frames.specs.declared.board_rule.EntryState.{EntryState}
use Rattle.frames.specs.declared.board_rule.EntryState.TheVariants.{InUse, NotEntrant, Zombie, Vacant}
use Rattle.frames.specs.declared.board_rule.StepMade.{StepMade}
use Rattle.frames.specs.declared.board_rule.StepMade.TheVariants.{LoadEntry, StoreEntry, LoadMoment, AddMoment, StorePlace, AddCount, SubCount, LoadPlace, LoadCount}
use Rattle.frames.specs.BoardWords.{Word, IsWord, entry_of, count_of, place_of, the_moment, written, pack, says_in_use, says_gone}
use Rattle.frames.specs.BoardRule.{SlotState, SeatState, BoardState, code_at}

-- What a seat knows after its step

-- a load of the entry of the code's slot: the code joins the fresh ones where it is in use, and those gone where it no longer is
abbrev pub seat_entered : SeatState → CodeId → ℕ → SeatState
seat_entered t c found = record {
  counted = t.counted;
  fresh = λ d. (same_code d c && says_in_use found c) || t.fresh d;
  moment = t.moment;
  stored = t.stored;
  gone = λ d. (same_code d c && says_gone found c) || t.gone d;
}

-- a load of the board's moment
abbrev pub seat_read : SeatState → ℕ → SeatState
seat_read t found = record { counted = t.counted; fresh = t.fresh; moment = found; stored = t.stored; gone = t.gone }

-- a store of the place's moment
abbrev pub seat_stored : SeatState → ℕ → SeatState
seat_stored t n = record { counted = t.counted; fresh = λ d. false; moment = 0; stored = n; gone = t.gone }

-- a change of how often the code is counted
abbrev pub seat_counted : SeatState → CodeId → ℕ → SeatState
seat_counted t c n = record { counted = λ d. if same_code d c then n else t.counted d; fresh = t.fresh; moment = t.moment; stored = t.stored; gone = t.gone }

-- What the keeper knows of a slot after its step

-- a store of a code in use
abbrev pub slot_installed : ℕ → SlotState
slot_installed serial = record { serial = serial; state = InUse; left = 0; looked = λ p. false; clear = false }

-- a store of the code as not entrant, at this moment
abbrev pub slot_invalidated : SlotState → ℕ → SlotState
slot_invalidated s now = record { serial = s.serial; state = NotEntrant; left = now; looked = λ p. false; clear = false }

-- what was found at a place lets it pass: it is vacant, or its stack was published in a moment after the invalidation
abbrev pub is_past : ℕ → ℕ → Bool
is_past left found = (found == 0) || nat_lt left found

-- a load of a place's moment
abbrev pub slot_looked : SlotState → ℕ → ℕ → SlotState
slot_looked s p found = record { serial = s.serial; state = s.state; left = s.left; looked = λ q. ((q == p) && is_past s.left found) || s.looked q; clear = s.clear }

-- a load of the slot's count
abbrev pub slot_weighed : SlotState → ℕ → SlotState
slot_weighed s found = record { serial = s.serial; state = s.state; left = s.left; looked = s.looked; clear = found == 0 }

-- a store of the code in a later state
abbrev pub slot_in : SlotState → EntryState → SlotState
slot_in s state = record { serial = s.serial; state = state; left = s.left; looked = s.looked; clear = s.clear }

-- What a step leaves

-- no word changes
abbrev pub Loads : ℕ → ℕ → BoardState → BoardState → Type 0
Loads slots places old new = (y : Word) → IsWord slots places y → new.word y ≡ old.word y

-- the word x becomes n, and no other word changes
abbrev pub Writes : ℕ → ℕ → Word → ℕ → BoardState → BoardState → Type 0
Writes slots places x n old new = (y : Word) → IsWord slots places y → new.word y ≡ written x n old.word y

-- the seat of the place p knows t, and no other view changes
pub record SeatBecomes (p : ℕ) (t : SeatState) (old new : BoardState) : Type 0 where
  pub mine : new.seat p ≡ t
  pub others : (q : ℕ) → q ≢ p → new.seat q ≡ old.seat q
  pub slots_stay : new.slot ≡ old.slot
  pub now_stays : new.now ≡ old.now

-- the keeper knows s of the slot k, and no other view changes
pub record SlotBecomes (k : ℕ) (s : SlotState) (old new : BoardState) : Type 0 where
  pub mine : new.slot k ≡ s
  pub others : (j : ℕ) → j ≢ k → new.slot j ≡ old.slot j
  pub seats_stay : new.seat ≡ old.seat
  pub now_stays : new.now ≡ old.now

-- the keeper's moment is n, and no other view changes
pub record NowBecomes (n : ℕ) (old new : BoardState) : Type 0 where
  pub mine : new.now ≡ n
  pub slots_stay : new.slot ≡ old.slot
  pub seats_stay : new.seat ≡ old.seat

-- the seat may store n: the moment that it read, or 0 where it counts nothing
abbrev pub IsStorable : SeatState → ℕ → Type 0
IsStorable t n = ((t.moment ≢ 0) × (n ≡ t.moment)) ⊎ (((c : CodeId) → t.counted c ≡ 0) × (n ≡ 0))

-- Who makes a step: the keeper, or the thread of a place.
pub data Actor : Type 0 where
  keeper : Actor
  thread : ℕ → Actor

-- A step of a board of so many slots and places, from the old state to the new: who makes it, and which it is, with the value
-- that it met.
pub data BoardStep (slots places : ℕ) (old new : BoardState) : Actor → StepMade → Type 0 where
  -- The thread of the place p asks whether the code is in use. It has ended a publication.
  load_entry : (p : ℕ) (c : CodeId) → p < places → c.slot < slots → (old.seat p).stored ≢ 0
      → Loads slots places old new → SeatBecomes p (seat_entered (old.seat p) c (old.word (entry_of c.slot))) old new
      → BoardStep slots places old new (thread p) (LoadEntry c (old.word (entry_of c.slot)))
  -- The keeper puts a code of a greater serial into a vacant slot.
  store_in_use : (c : CodeId) → c.slot < slots → (old.slot c.slot).state ≡ Vacant → (old.slot c.slot).serial < c.serial → c.serial < 2 ^ 40
      → Writes slots places (entry_of c.slot) (pack c.serial InUse) old new → SlotBecomes c.slot (slot_installed c.serial) old new
      → BoardStep slots places old new keeper (StoreEntry c InUse)
  -- The keeper makes a code in use not entrant.
  store_not_entrant : (k : ℕ) → k < slots → (old.slot k).state ≡ InUse
      → Writes slots places (entry_of k) (pack (old.slot k).serial NotEntrant) old new → SlotBecomes k (slot_invalidated (old.slot k) old.now) old new
      → BoardStep slots places old new keeper (StoreEntry (code_at old k) NotEntrant)
  -- The thread begins a publication.
  load_moment : (p : ℕ) → p < places
      → Loads slots places old new → SeatBecomes p (seat_read (old.seat p) (old.word the_moment)) old new
      → BoardStep slots places old new (thread p) (LoadMoment (old.word the_moment))
  -- The keeper begins the next moment.
  add_moment : old.now < 2 ^ 40 - 1
      → Writes slots places the_moment (old.word the_moment + 1) old new → NowBecomes (old.now + 1) old new
      → BoardStep slots places old new keeper (AddMoment (old.word the_moment))
  -- The thread ends its publication, or gives the place up.
  store_place : (p n : ℕ) → p < places → IsStorable (old.seat p) n
      → Writes slots places (place_of p) n old new → SeatBecomes p (seat_stored (old.seat p) n) old new
      → BoardStep slots places old new (thread p) (StorePlace n)
  -- The thread counts activations of a code that it entered since its last publication.
  add_count : (p : ℕ) (c : CodeId) (by : ℕ) → p < places → 0 < by → (old.seat p).fresh c ≡ true → (old.seat p).counted c + by ≤ 256
      → Writes slots places (count_of c.slot) (old.word (count_of c.slot) + by) old new → SeatBecomes p (seat_counted (old.seat p) c ((old.seat p).counted c + by)) old new
      → BoardStep slots places old new (thread p) (AddCount c by (old.word (count_of c.slot)))
  -- The thread takes back activations that it counted.
  sub_count : (p : ℕ) (c : CodeId) (by : ℕ) → p < places → 0 < by → by ≤ (old.seat p).counted c
      → Writes slots places (count_of c.slot) (old.word (count_of c.slot) - by) old new → SeatBecomes p (seat_counted (old.seat p) c ((old.seat p).counted c - by)) old new
      → BoardStep slots places old new (thread p) (SubCount c by (old.word (count_of c.slot)))
  -- The keeper looks at a place for a code that is not entrant.
  load_place : (k p : ℕ) → k < slots → p < places → (old.slot k).state ≡ NotEntrant
      → Loads slots places old new → SlotBecomes k (slot_looked (old.slot k) p (old.word (place_of p))) old new
      → BoardStep slots places old new keeper (LoadPlace (code_at old k) p (old.word (place_of p)))
  -- The keeper weighs a code that is no longer in use, where every place was looked at for it.
  load_count : (k : ℕ) → k < slots → (old.slot k).state ≢ InUse → ((p : ℕ) → p < places → (old.slot k).looked p ≡ true)
      → Loads slots places old new → SlotBecomes k (slot_weighed (old.slot k) (old.word (count_of k))) old new
      → BoardStep slots places old new keeper (LoadCount (code_at old k) (old.word (count_of k)))
  -- The keeper makes a zombie of a code that is not entrant and was weighed clear.
  store_zombie : (k : ℕ) → k < slots → (old.slot k).state ≡ NotEntrant → (old.slot k).clear ≡ true
      → Writes slots places (entry_of k) (pack (old.slot k).serial Zombie) old new → SlotBecomes k (slot_in (old.slot k) Zombie) old new
      → BoardStep slots places old new keeper (StoreEntry (code_at old k) Zombie)
  -- The keeper frees the slot of a zombie. The serial stays.
  store_vacant : (k : ℕ) → k < slots → (old.slot k).state ≡ Zombie
      → Writes slots places (entry_of k) (pack (old.slot k).serial Vacant) old new → SlotBecomes k (slot_in (old.slot k) Vacant) old new
      → BoardStep slots places old new keeper (StoreEntry (code_at old k) Vacant)
