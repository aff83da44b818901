-- The views of a board's table, whose sets and bags are lists, as states of the rule, and what each step makes of them.
use Rattle.std.specs.Prelude.{◌≡◌, ◌⊎◌, ℕ, ℤ, pos, negsuc, suc, ◌+◌, ◌-◌, ◌<◌, ◌==◌, ◌||◌, if◌then◌else◌, Bool, true, false, List, [], ◌∷◌, slice_set, slice_index_or, replicate}
use Rattle.frames.specs.declared.CodeId.{CodeId}
use Rattle.frames.specs.Stack.{same_code}
use Rattle.frames.specs.declared.board_rule.EntryState.{EntryState}
use Rattle.frames.specs.declared.board_rule.EntryState.TheVariants.{InUse, NotEntrant, Vacant}
use Rattle.frames.specs.declared.board_rule.StepMade.{StepMade}
use Rattle.frames.specs.declared.board_rule.StepMade.TheVariants.{Nothing, LoadEntry, StoreEntry, LoadMoment, AddMoment, StorePlace, AddCount, SubCount, LoadPlace, LoadCount}
use Rattle.frames.specs.declared.board_rule.SlotView.{SlotView}
use Rattle.frames.specs.declared.board_rule.KeeperView.{KeeperView}
use Rattle.frames.specs.declared.board_rule.SeatView.{SeatView}
use Rattle.frames.specs.BoardWords.{pack, says_in_use, says_gone}
use Rattle.frames.specs.BoardRule.{SlotState, SeatState}
use Rattle.frames.specs.BoardStep.{is_past}

-- how often a bag has a code: the newest entry of the code says it
abbrev pub how_often : List (CodeId × ℕ) → CodeId → ℕ
how_often [] c = 0
how_often (x ∷ xs) c = if same_code c x.0 then x.1 else how_often xs c

abbrev pub has_code : List CodeId → CodeId → Bool
has_code [] c = false
has_code (x ∷ xs) c = same_code c x || has_code xs c

abbrev pub has_place : List ℕ → ℕ → Bool
has_place [] p = false
has_place (x ∷ xs) p = (p == x) || has_place xs p

abbrev pub slot_state : SlotView → SlotState
slot_state s = record { serial = s.serial; state = s.state; left = s.left; looked = has_place s.looked; clear = s.clear }

abbrev pub seat_state : SeatView → SeatState
seat_state t = record { counted = how_often t.counted; fresh = has_code t.fresh; moment = t.moment; stored = t.stored; gone = has_code t.gone }

abbrev pub empty_slot : SlotView
empty_slot = record { serial = 0; state = Vacant; left = 0; looked = []; clear = false }

abbrev pub slot_of : KeeperView → ℕ → SlotView
slot_of k i = slice_index_or k.slots i empty_slot

-- the keeper has the code in its slot, in this state
abbrev pub IsIn : KeeperView → CodeId → EntryState → Type 0
IsIn k c state = ((slot_of k c.slot).serial ≡ c.serial) × ((slot_of k c.slot).state ≡ state)

-- the seat's bag or its fresh codes have the code
abbrev pub IsHeld : SeatView → CodeId → Type 0
IsHeld t c = (0 < how_often t.counted c) ⊎ (has_code t.fresh c ≡ true)

-- an entry's word says that the code stands there, in use or not entrant
abbrev pub IsStandingWord : CodeId → ℕ → Type 0
IsStandingWord c word = (word ≡ pack c.serial InUse) ⊎ (word ≡ pack c.serial NotEntrant)

-- The views of a new board. The keeper's says how many seats were split off.
abbrev pub keeper_view : ℕ → ℕ → KeeperView
keeper_view slots split = record { moment = 1; slots = replicate slots empty_slot; split = split; steps = 0; last = Nothing }

abbrev pub seat_view : ℕ → SeatView
seat_view p = record { place = p; counted = []; fresh = []; moment = 0; stored = 0; gone = []; steps = 0; last = Nothing }

-- What a seat's view is after each of its steps

abbrev pub with_code : Bool → CodeId → List CodeId → List CodeId
with_code true c xs = c ∷ xs
with_code false c xs = xs

-- a load of the entry of the code's slot, which found a word
abbrev pub entered : SeatView → CodeId → ℕ → SeatView
entered t c found = record {
  place = t.place;
  counted = t.counted;
  fresh = with_code (says_in_use found c) c t.fresh;
  moment = t.moment;
  stored = t.stored;
  gone = with_code (says_gone found c) c t.gone;
  steps = t.steps + 1;
  last = LoadEntry c found;
}

-- a load of the board's moment
abbrev pub moment_read : SeatView → ℕ → SeatView
moment_read t found = record { place = t.place; counted = t.counted; fresh = t.fresh; moment = found; stored = t.stored; gone = t.gone; steps = t.steps + 1; last = LoadMoment found }

-- a store of the place's moment, or of 0
abbrev pub stored_as : SeatView → ℕ → SeatView
stored_as t n = record { place = t.place; counted = t.counted; fresh = []; moment = 0; stored = n; gone = t.gone; steps = t.steps + 1; last = StorePlace n }

abbrev pub counted_as : SeatView → CodeId → ℕ → StepMade → SeatView
counted_as t c n made = record { place = t.place; counted = (c, n) ∷ t.counted; fresh = t.fresh; moment = t.moment; stored = t.stored; gone = t.gone; steps = t.steps + 1; last = made }

-- a fetch-add and a fetch-sub on the count of the code's slot
abbrev pub counted_up : SeatView → CodeId → ℕ → ℕ → SeatView
counted_up t c by found = counted_as t c (how_often t.counted c + by) (AddCount c by found)

abbrev pub counted_down : SeatView → CodeId → ℕ → ℕ → SeatView
counted_down t c by found = counted_as t c (how_often t.counted c - by) (SubCount c by found)

-- a change of the count by a difference that isn't 0: one or the other
abbrev pub count_changed : SeatView → CodeId → ℤ → ℕ → SeatView
count_changed t c (pos n) found = counted_up t c n found
count_changed t c (negsuc n) found = counted_down t c (suc n) found

-- What the keeper's view is after each of its steps

-- a fetch-add on the board's moment
abbrev pub went_round : KeeperView → ℕ → KeeperView
went_round k found = record { moment = k.moment + 1; slots = k.slots; split = k.split; steps = k.steps + 1; last = AddMoment found }

-- a step which leaves this of the slot i
abbrev pub with_slot : KeeperView → ℕ → SlotView → StepMade → KeeperView
with_slot k i s made = record { moment = k.moment; slots = slice_set k.slots i s; split = k.split; steps = k.steps + 1; last = made }

-- a store of an entry
abbrev pub entry_stored : KeeperView → CodeId → SlotView → KeeperView
entry_stored k c s = with_slot k c.slot s (StoreEntry c s.state)

abbrev pub in_use : CodeId → SlotView
in_use c = record { serial = c.serial; state = InUse; left = 0; looked = []; clear = false }

abbrev pub not_entrant : CodeId → ℕ → SlotView
not_entrant c now = record { serial = c.serial; state = NotEntrant; left = now; looked = []; clear = false }

abbrev pub in_state : SlotView → EntryState → SlotView
in_state s state = record { serial = s.serial; state = state; left = s.left; looked = s.looked; clear = s.clear }

abbrev pub with_place : Bool → ℕ → List ℕ → List ℕ
with_place true p xs = p ∷ xs
with_place false p xs = xs

abbrev pub slot_with_look : SlotView → ℕ → ℕ → SlotView
slot_with_look s p found = record { serial = s.serial; state = s.state; left = s.left; looked = with_place (is_past s.left found) p s.looked; clear = s.clear }

-- a load of a place's moment
abbrev pub looked_at : KeeperView → CodeId → ℕ → ℕ → KeeperView
looked_at k c p found = with_slot k c.slot (slot_with_look (slot_of k c.slot) p found) (LoadPlace c p found)

abbrev pub slot_with_weight : SlotView → ℕ → SlotView
slot_with_weight s found = record { serial = s.serial; state = s.state; left = s.left; looked = s.looked; clear = found == 0 }

-- a load of the count of the code's slot
abbrev pub weighed : KeeperView → CodeId → ℕ → KeeperView
weighed k c found = with_slot k c.slot (slot_with_weight (slot_of k c.slot) found) (LoadCount c found)
