use Rattle.std.proofs.Common.{◌≡◌, ◌≤◌, ◌+◌, ◌++◌, length, vec_capacity, vec_len}
use Rattle.thread_list.specs.Sharing.{places_in}
use Rattle.thread_list.proofs.parts.berths_of.Given as goal

abbrev pub invariant-loop-room : goal.invariant-loop-room
invariant-loop-room g l = record {
  order : l.berths.items ++ places_in l.rooms.items ≡ places_in l.fn.rooms.items;
  count : vec_len l.berths + length l.rooms.items ≡ length l.fn.rooms.items;
  fits : length l.fn.rooms.items ≤ vec_capacity l.berths;
}

abbrev pub decreases-loop-room : goal.decreases-loop-room
decreases-loop-room g l = length l.rooms.items
