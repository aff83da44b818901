use Rattle.board.specs.Plays.{asked}
use Rattle.board.proofs.keeper.Keeper.install.Given as goal

abbrev pub ghosts-store_in_use : goal.ghosts-store_in_use
ghosts-store_in_use a = record { asked = asked a.self.now.board a.code 0 }
