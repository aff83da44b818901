use Rattle.board.specs.Plays.{asked}
use Rattle.board.proofs.keeper.Keeper.invalidate.Given as goal

abbrev pub ghosts-store_not_entrant : goal.ghosts-store_not_entrant
ghosts-store_not_entrant a = record { asked = asked a.self.now.board a.code 0 }
