use Rattle.std.proofs.Common.{◌≡◌, ◌<◌, ◌≤◌, ◌+◌, ℕ, length, slice_index}
use Rattle.frames.specs.BoardWords.{entry_of, the_moment}
use Rattle.board.specs.Boards.{index_of, words_at}
use Rattle.board.proofs.board.first_words.Given as goal

abbrev pub invariant-loop-slot : goal.invariant-loop-slot
invariant-loop-slot l = record {
  wide : length l.words.items ≡ words_at l.fn.slots l.fn.places;
  moment : slice_index l.words.items (index_of l.fn.slots the_moment) ≡ 1;
  entries : (k : ℕ) → k < l.slot → slice_index l.words.items (index_of l.fn.slots (entry_of k)) ≡ 3;
  others : (j : ℕ) → 16 + l.slot ≤ j → slice_index l.words.items j ≡ 0;
}
