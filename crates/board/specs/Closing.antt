-- The words of a closed board.
use Rattle.std.specs.Prelude.{◌≡◌, ℕ, ◌<◌, List, slice_get, Some}
use Rattle.frames.specs.BoardWords.{Word, IsWord}
use Rattle.frames.specs.BoardRule.{BoardState, IsBoardKept}
use Rattle.frames.specs.BoardViews.{seat_state}
use Rattle.board.specs.Boards.{word_in, KeeperSeen, SeatSeen, IsKeptBy}

pub record WordsLeft : Type 0 where
  pub slots : ℕ
  pub places : ℕ
  pub words : List ℕ

abbrev pub words_left : ℕ → ℕ → List ℕ → WordsLeft
words_left slots places ws = record { slots = slots; places = places; words = ws }

abbrev pub word_left : WordsLeft → Word → ℕ
word_left b x = word_in b.slots b.words x

-- The words are those of a board that meets the rule and agrees with the views of the keeper and of the seats that were given back.
pub record IsLeftBy (k : KeeperSeen) (seats : List SeatSeen) (b : WordsLeft) : Type 0 where
  pub state : BoardState
  pub kept : IsBoardKept b.slots b.places state
  pub keeper : IsKeptBy state k.seen
  pub seats_are : (i : ℕ) (s : SeatSeen) → slice_get seats i ≡ Some s → state.seat s.seen.place ≡ seat_state s.seen
  pub words_are : (x : Word) → IsWord b.slots b.places x → word_left b x ≡ state.word x

-- the seat of each place is among these, and has given its place up
abbrev pub AreVacant : ℕ → List SeatSeen → Type 0
AreVacant places seats = (p : ℕ) → p < places → (i : ℕ) × (s : SeatSeen) × (slice_get seats i ≡ Some s) × (s.seen.place ≡ p) × (s.seen.stored ≡ 0)
