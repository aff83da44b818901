use Rattle.board.specs.Plays.{asked}
use Rattle.board.proofs.thread_seat.ThreadSeat.count_change.Given as goal

abbrev pub ghosts-add_count : goal.ghosts-add_count
ghosts-add_count a = record { asked = asked a.self.now.board a.code 0 }

abbrev pub ghosts-sub_count : goal.ghosts-sub_count
ghosts-sub_count a = record { asked = asked a.self.now.board a.code 0 }
