use Rattle.std.proofs.Common.{◌≡◌, ◌+◌, ◌++◌, length, vec_len}
use Rattle.thread_list.specs.Sharing.{places_in}
use Rattle.parties.proofs.system.locked_rooms.Given as goal

abbrev pub invariant-loop-room : goal.invariant-loop-room
invariant-loop-room g l = record {
  order : l.locks.items ++ places_in l.rooms.items ≡ places_in l.fn.rooms.items;
  count : vec_len l.locks + length l.rooms.items ≡ length l.fn.rooms.items;
}

abbrev pub decreases-loop-room : goal.decreases-loop-room
decreases-loop-room g l = length l.rooms.items
