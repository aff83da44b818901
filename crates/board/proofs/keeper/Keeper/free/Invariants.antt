use Rattle.board.specs.Plays.{asked}
use Rattle.board.proofs.keeper.Keeper.free.Given as goal

abbrev pub ghosts-store_vacant : goal.ghosts-store_vacant
ghosts-store_vacant a = record { asked = asked a.self.now.board a.code 0 }
