use Rattle.board.specs.Plays.{asked_of}
use Rattle.board.proofs.thread_seat.ThreadSeat.read_moment.Given as goal

abbrev pub ghosts-load_moment : goal.ghosts-load_moment
ghosts-load_moment a = record { asked = asked_of a.self.now.board }
