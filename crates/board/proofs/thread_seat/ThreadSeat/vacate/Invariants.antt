use Rattle.board.specs.Plays.{asked_of}
use Rattle.board.proofs.thread_seat.ThreadSeat.vacate.Given as goal

abbrev pub ghosts-store_vacant : goal.ghosts-store_vacant
ghosts-store_vacant a = record { asked = asked_of a.self.now.board }
