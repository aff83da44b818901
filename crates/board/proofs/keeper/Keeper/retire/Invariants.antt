use Rattle.board.specs.Plays.{asked}
use Rattle.board.proofs.keeper.Keeper.retire.Given as goal

abbrev pub ghosts-store_zombie : goal.ghosts-store_zombie
ghosts-store_zombie a = record { asked = asked a.self.now.board a.code 0 }
