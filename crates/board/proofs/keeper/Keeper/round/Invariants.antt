use Rattle.board.specs.Plays.{asked_of}
use Rattle.board.proofs.keeper.Keeper.round.Given as goal

abbrev pub ghosts-add_moment : goal.ghosts-add_moment
ghosts-add_moment a = record { asked = asked_of a.self.now.board }
