use Rattle.board.specs.Plays.{asked_of}
use Rattle.board.proofs.thread_seat.ThreadSeat.end_publication.Given as goal

abbrev pub ghosts-store_read : goal.ghosts-store_read
ghosts-store_read a = record { asked = asked_of a.self.now.board }
