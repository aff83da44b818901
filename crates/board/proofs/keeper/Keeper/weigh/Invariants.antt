use Rattle.board.specs.Plays.{asked}
use Rattle.board.proofs.keeper.Keeper.weigh.Given as goal

abbrev pub ghosts-load_count : goal.ghosts-load_count
ghosts-load_count a = record { asked = asked a.self.now.board a.code 0 }
