use Rattle.board.specs.Plays.{asked}
use Rattle.board.proofs.thread_seat.ThreadSeat.enter.Given as goal

abbrev pub ghosts-load_entry : goal.ghosts-load_entry
ghosts-load_entry a = record { asked = asked a.self.now.board a.code 0 }
