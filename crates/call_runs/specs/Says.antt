-- The recorded answer of a call, compared with the answers of its events.
use Rattle.std.specs.Prelude.{ℕ, ◌==◌, Bool, true, false, ◌&&◌, bytes_eq, List, [], ◌∷◌, Option, Some, None}
use Rattle.thread_state.specs.declared.State.TheVariants.{Vacant}
use Rattle.system.specs.declared.answers.Answer.{Answer}
use Rattle.system.specs.declared.answers.Answer.TheVariants as answer
use Rattle.system.specs.declared.answers.CodeCount.{CodeCount}
use Rattle.system.specs.declared.answers.Refusal.{Refusal}
use Rattle.system.specs.declared.answers.Refusal.TheVariants as refusal
use Rattle.call_log.specs.declared.word.Word.{Word}
use Rattle.call_log.specs.declared.word.Word.TheVariants as word
use Rattle.call_log.specs.declared.entry.Entry.{Entry}
use Rattle.call_log.specs.Words.{word_text}

-- A call that hadn't returned is consistent with any answer.
abbrev pub says_by : Option Word → List ℕ → Word → List ℕ → Bool
says_by None values word numbers = true
says_by (Some said) values word numbers = bytes_eq (word_text said) (word_text word) && bytes_eq values numbers

-- The recorded answer is this word with these numbers.
abbrev pub says : Entry → Word → List ℕ → Bool
says entry word numbers = says_by entry.answer entry.values word numbers

-- The name of a refusal. An illegal act is recorded as Vacant where the place is vacant.
abbrev pub refusal_word : Refusal → Word
refusal_word (refusal.Illegal Vacant) = word.Vacant
refusal_word (refusal.Illegal other) = word.Illegal
refusal_word refusal.NoSuchPlace = word.NoSuchPlace
refusal_word refusal.Publishing = word.Publishing
refusal_word refusal.NotBegun = word.NotBegun
refusal_word refusal.ChangesLeft = word.ChangesLeft
refusal_word refusal.Held = word.Held
refusal_word refusal.NoSuchMethod = word.NoSuchMethod
refusal_word refusal.Unknown = word.Unknown
refusal_word refusal.Unpublished = word.Unpublished
refusal_word refusal.DepthFull = word.DepthFull
refusal_word refusal.NotOf = word.NotOf
refusal_word refusal.EmptyStack = word.EmptyStack
refusal_word refusal.StackNotEmpty = word.StackNotEmpty
refusal_word refusal.OperationPending = word.OperationPending
refusal_word refusal.NotDone = word.NotDone
refusal_word refusal.NothingOpen = word.NothingOpen
refusal_word refusal.NotTold = word.NotTold
refusal_word refusal.AlreadyDone = word.AlreadyDone
refusal_word refusal.NotSafe = word.NotSafe
refusal_word refusal.NotHeld = word.NotHeld
refusal_word refusal.SafepointOpen = word.SafepointOpen
refusal_word refusal.PlacesFull = word.PlacesFull
refusal_word refusal.Spent = word.Spent
refusal_word refusal.TableFull = word.TableFull
refusal_word refusal.SerialsSpent = word.SerialsSpent
refusal_word refusal.NotInUse = word.NotInUse
refusal_word refusal.NotNotEntrant = word.NotNotEntrant
refusal_word refusal.NotZombie = word.NotZombie
refusal_word refusal.QueueFull = word.QueueFull
refusal_word refusal.NoTargets = word.NoTargets
refusal_word refusal.BadTargets = word.BadTargets
refusal_word refusal.AlreadyOpen = word.AlreadyOpen
refusal_word refusal.QueueEmpty = word.QueueEmpty
refusal_word refusal.AlreadyTold = word.AlreadyTold
refusal_word refusal.NotAllHeld = word.NotAllHeld

-- The recorded answer is that of the call's single event.
abbrev pub fits : Entry → Answer → Bool
fits entry answer.Done = says entry word.Ok []
fits entry answer.Go = says entry word.Go []
fits entry (answer.Stop n) = says entry word.Stop (n ∷ [])
fits entry (answer.Code serial) = says entry word.Code (serial ∷ [])
fits entry (answer.Asked n) = says entry word.Asked (n ∷ [])
fits entry (answer.Opened n kind) = says entry word.Open (n ∷ [])
fits entry answer.Told = says entry word.Told []
fits entry answer.Gone = says entry word.Gone []
fits entry (answer.Closed n) = says entry word.Closed (n ∷ [])
fits entry (answer.Refused why) = says entry (refusal_word why) []
fits entry other = false

abbrev pub is_done : Answer → Bool
is_done answer.Done = true
is_done other = false

abbrev pub answers_by : Option Word → Word → Bool
answers_by None word = true
answers_by (Some said) word = bytes_eq (word_text said) (word_text word)

-- The recorded answer is this word, with any numbers.
abbrev pub answers : Entry → Word → Bool
answers entry word = answers_by entry.answer word

abbrev pub is_none : List ℕ → Bool
is_none [] = true
is_none (n ∷ numbers) = false

-- The numbers are the serials and counts, alternating.
abbrev pub are_counts : List CodeCount → List ℕ → Bool
are_counts [] numbers = is_none numbers
are_counts (counted ∷ counts) (serial ∷ count ∷ numbers) = (serial == counted.serial) && (count == counted.count) && are_counts counts numbers
are_counts (counted ∷ counts) other = false

abbrev pub counts_behind : List ℕ → List CodeCount → Bool
counts_behind [] counts = false
counts_behind (n ∷ numbers) counts = are_counts counts numbers

abbrev pub counts_by : Option Word → List ℕ → List CodeCount → Bool
counts_by None values counts = true
counts_by (Some said) values counts = bytes_eq (word_text said) (word_text word.Census) && counts_behind values counts

-- The recorded answer has the number of the operation and then the counts of a census.
abbrev pub counts_said : Entry → List CodeCount → Bool
counts_said entry counts = counts_by entry.answer entry.values counts

abbrev pub is_head : List ℕ → ℕ → Bool
is_head [] n = false
is_head (first ∷ numbers) n = first == n

-- The recorded answer is that of the census with this number.
abbrev pub census_by : Option Word → List ℕ → ℕ → Bool
census_by None values n = true
census_by (Some said) values n = bytes_eq (word_text said) (word_text word.Census) && is_head values n
