-- Facts of every world to which events lead. By these facts a compact representation of a world is enough.
use Rattle.std.specs.Prelude.{◌≡◌, ℕ, ◌+◌, ◌*◌, ◌<◌, ◌≤◌, Bool, true, false, length, List, [], Option, Some, slice_get}
use Rattle.frames.specs.declared.CodeId.{CodeId}
use Rattle.method_table.specs.declared.Code.{Code}
use Rattle.method_table.specs.declared.CodeState.{CodeState}
use Rattle.method_table.specs.declared.CodeState.TheVariants.{InUse, NotEntrant}
use Rattle.frames.specs.Stack.{act}
use Rattle.method_table.specs.Numbers.{last_number}
use Rattle.method_table.specs.Codes.{code_of, id_of, takes_slot, is_in_use}
use Rattle.operations.specs.Names.{among}
use Rattle.operations.specs.Requests.{is_census, is_target}
use Rattle.system.specs.Threads.{Thread, has_changed, part}
use Rattle.system.specs.Operations.{Requests, Waiting, Opened, is_marked}
use Rattle.system.specs.Log.{names_given, operations_given, moment, is_looked}
use Rattle.system.specs.World.{World, start_world, walk}
use Rattle.system.specs.Runs.{world_after}
use Rattle.system.specs.Moments.{invalidated, ended, IsCoveredByMoments}
use Rattle.system.specs.declared.events.Event.{Event}
use Rattle.system.specs.Laws.{HeldIsSafe}

-- The code was given out, in this slot.
abbrev pub IsGiven : List Code → CodeId → Type 0
IsGiven codes c = (code : Code) × (code_of codes c.serial ≡ Some code) × (id_of code ≡ c)

-- The codes of a sound world.
pub record TableIsSound (slots methods : ℕ) (codes : List Code) : Type 0 where
  -- A code's serial is its position, from 1.
  pub serial_is : (i : ℕ) (code : Code) → slice_get codes i ≡ Some code → code.serial ≡ i + 1
  -- Slots and methods are within the world's sizes.
  pub slot_low : (i : ℕ) (code : Code) → slice_get codes i ≡ Some code → code.slot < slots
  pub method_low : (i : ℕ) (code : Code) → slice_get codes i ≡ Some code → code.method < methods
  -- A slot has at most one unfreed code, a method at most one code in use.
  pub one_in_slot : (i j : ℕ) (a b : Code) → slice_get codes i ≡ Some a → slice_get codes j ≡ Some b → takes_slot a.state ≡ true → takes_slot b.state ≡ true → a.slot ≡ b.slot → i ≡ j
  pub one_in_use : (i j : ℕ) (a b : Code) → slice_get codes i ≡ Some a → slice_get codes j ≡ Some b → is_in_use a.state ≡ true → is_in_use b.state ≡ true → a.method ≡ b.method → i ≡ j
  -- The last serial is within its limit.
  pub few : length codes ≤ last_number

-- A thread, after this many names were given out.
pub record ThreadIsSound (codes : List Code) (given : ℕ) (t : Thread) : Type 0 where
  -- Its name was given out.
  pub name_from : 0 < t.name
  pub name_to : t.name ≤ given
  -- The stack and the shown stack have at most 256 frames.
  pub depth : length t.stack ≤ 256
  pub depth_shown : length t.shown ≤ 256
  -- The codes of the stack, of the shown stack and of the changes were given out.
  pub stack_given : (c : CodeId) → 0 < act c t.stack → IsGiven codes c
  pub shown_given : (c : CodeId) → 0 < act c t.shown → IsGiven codes c
  pub changed_given : (c : CodeId) → has_changed t c ≡ true → IsGiven codes c
  -- Before the first ended publication the thread has no frame and has shown none.
  pub empty : t.published ≡ false → t.stack ≡ []
  pub empty_shown : t.published ≡ false → t.shown ≡ []

-- All threads are sound, and no two have the same name.
pub record ThreadsAreSound (places : List (Option Thread)) (codes : List Code) (given : ℕ) : Type 0 where
  pub each : (p : ℕ) (t : Thread) → slice_get places p ≡ Some (Some t) → ThreadIsSound codes given t
  pub one_name : (p q : ℕ) (t u : Thread) → slice_get places p ≡ Some (Some t) → slice_get places q ≡ Some (Some u) → t.name ≡ u.name → p ≡ q

-- The operation was opened; it may be closed since.
abbrev pub WasOpened : List Waiting → ℕ → ℕ → Type 0
WasOpened waiting numbered n = (0 < n) × (n + length waiting ≤ numbered)

-- The numbers of operations, at a moment, after this many names and operations were given out.
pub record NumbersAreSound (waiting : List Waiting) (opened : List Opened) (given numbered now : ℕ) : Type 0 where
  -- Names, operations and moments are within their limits.
  pub names_few : given ≤ last_number
  pub operations_few : numbered ≤ last_number
  pub moment_few : now ≤ last_number
  -- At most 64 requests wait, with the last numbers in order.
  pub queue_few : length waiting ≤ 64
  pub waiting_asked : length waiting ≤ numbered
  pub waiting_is : (i : ℕ) (x : Waiting) → slice_get waiting i ≡ Some x → x.number + length waiting ≡ numbered + i + 1
  -- At most four operations are open, and a census is open alone.
  pub few_open : length opened ≤ 4
  pub census_alone : (i : ℕ) (o : Opened) → slice_get opened i ≡ Some o → is_census o.request ≡ true → length opened ≤ 1
  -- The numbers of open operations rise, and are less than those of waiting requests.
  pub opened_rise : (i j : ℕ) (a b : Opened) → i < j → slice_get opened i ≡ Some a → slice_get opened j ≡ Some b → a.number < b.number
  pub opened_is : (i : ℕ) (o : Opened) → slice_get opened i ≡ Some o → WasOpened waiting numbered o.number

-- An open operation that was told to the thread.
pub record IsToldOpen (requests : Requests) (o : Opened) (name : ℕ) : Type 0 where
  pub opened : (i : ℕ) × (slice_get requests.opened i ≡ Some o)
  pub told : is_marked requests.told o.number name ≡ true

-- The sets told, done and cleared, after this many names and operations were given out.
pub record MarksAreSound (places : List (Option Thread)) (requests : Requests) (given numbered : ℕ) : Type 0 where
  -- The live names of open operations and the told names were given out.
  pub live_given : (i : ℕ) (o : Opened) (name : ℕ) → slice_get requests.opened i ≡ Some o → among name o.live ≡ true → name ≤ given
  pub told_given : (n name : ℕ) → is_marked requests.told n name ≡ true → name ≤ given
  -- A live name of an open operation is a target.
  pub live_target : (i : ℕ) (o : Opened) (name : ℕ) → slice_get requests.opened i ≡ Some o → among name o.live ≡ true → is_target o.request name ≡ true
  -- An operation that was told was opened; one that is done was told; one that is cleared is done.
  pub told_opened : (n name : ℕ) → is_marked requests.told n name ≡ true → WasOpened requests.waiting numbered n
  pub done_told : (n name : ℕ) → is_marked requests.done n name ≡ true → is_marked requests.told n name ≡ true
  pub cleared_done : (n name : ℕ) → is_marked requests.cleared n name ≡ true → is_marked requests.done n name ≡ true
  -- An open operation is told only to threads that were live when it was opened.
  pub told_live : (i : ℕ) (o : Opened) (name : ℕ) → slice_get requests.opened i ≡ Some o → is_marked requests.told o.number name ≡ true → among name o.live ≡ true
  -- An operation that was told to a live thread and isn't cleared for it is open.
  pub uncleared_open : (p : ℕ) (t : Thread) (n : ℕ) → slice_get places p ≡ Some (Some t) → is_marked requests.told n t.name ≡ true → is_marked requests.cleared n t.name ≡ false
      → (i : ℕ) × (o : Opened) × (slice_get requests.opened i ≡ Some o) × (o.number ≡ n)
  -- An open operation was told to each held thread.
  pub held_told : (p : ℕ) (t : Thread) → slice_get places p ≡ Some (Some t) → t.held ≡ true → (o : Opened) × IsToldOpen requests o t.name

-- An open operation that is operated is a census, and was told to each live thread.
pub record OperatedIsTold (places : List (Option Thread)) (requests : Requests) : Type 0 where
  pub census : (i : ℕ) (o : Opened) → slice_get requests.opened i ≡ Some o → o.operated ≡ true → is_census o.request ≡ true
  pub told : (i : ℕ) (o : Opened) (p : ℕ) (t : Thread) → slice_get requests.opened i ≡ Some o → o.operated ≡ true → slice_get places p ≡ Some (Some t) → is_marked requests.told o.number t.name ≡ true

-- A thread counts at most 256 frames of a code, and the index at most 256 for each place.
pub record CountsAreSound (w : World) : Type 0 where
  pub part_few : (p : ℕ) (t : Thread) (c : CodeId) → slice_get w.places p ≡ Some (Some t) → part c t ≤ 256
  pub walk_few : (c : CodeId) → walk w c ≤ length w.places * 256

-- Frames of the code may stand: it is in use or not entrant.
abbrev pub may_stand : CodeState → Bool
may_stand InUse = true
may_stand NotEntrant = true
may_stand other = false

abbrev pub IsLive : List Code → CodeId → Type 0
IsLive codes c = (code : Code) × (code_of codes c.serial ≡ Some code) × (id_of code ≡ c) × (may_stand code.state ≡ true)

-- Every code on a stack or in a thread's counts may have frames.
pub record FramesAreSound (w : World) : Type 0 where
  pub live : (p : ℕ) (t : Thread) (c : CodeId) → slice_get w.places p ≡ Some (Some t) → 0 < act c t.stack → IsLive w.codes c
  pub counted : (p : ℕ) (t : Thread) (c : CodeId) → slice_get w.places p ≡ Some (Some t) → 0 < part c t → IsLive w.codes c

-- The log of a sound world.
pub record LogIsSound (w : World) : Type 0 where
  -- Code in use was never invalidated, and only invalidated code has looks.
  pub in_use_stays : (serial : ℕ) (code : Code) → code_of w.codes serial ≡ Some code → is_in_use code.state ≡ true → invalidated serial w.log ≡ false
  pub looked_after : (serial place : ℕ) → is_looked w.log serial place ≡ true → invalidated serial w.log ≡ true
  -- Covered is a comparison of moments, and a published stack has a moment.
  pub covered_is : IsCoveredByMoments w
  pub published_from : (p : ℕ) (t : Thread) → slice_get w.places p ≡ Some (Some t) → t.published ≡ true → 0 < ended p w.log

-- A sound world meets all these facts.
pub record IsSound (w : World) : Type 0 where
  pub table : TableIsSound w.slots w.methods w.codes
  pub threads : ThreadsAreSound w.places w.codes (names_given w.log)
  pub numbers : NumbersAreSound w.requests.waiting w.requests.opened (names_given w.log) (operations_given w.log) (moment w.log)
  pub marks : MarksAreSound w.places w.requests (names_given w.log) (operations_given w.log)
  pub operated : OperatedIsTold w.places w.requests
  pub counts : CountsAreSound w
  pub frames : FramesAreSound w
  pub log : LogIsSound w
  pub held_safe : (p : ℕ) (t : Thread) → slice_get w.places p ≡ Some (Some t) → HeldIsSafe t

-- The sizes are those of the start.
pub record HasSizes (places slots methods : ℕ) (w : World) : Type 0 where
  pub places_are : length w.places ≡ places
  pub slots_are : w.slots ≡ slots
  pub methods_are : w.methods ≡ methods

-- After any events the world is sound and has its first sizes.
abbrev pub WorldsAreSound : Type 0
WorldsAreSound = (places slots methods : ℕ) (events : List Event) → IsSound (world_after (start_world places slots methods) events) × HasSizes places slots methods (world_after (start_world places slots methods) events)
