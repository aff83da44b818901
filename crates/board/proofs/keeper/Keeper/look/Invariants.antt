use Rattle.board.specs.Plays.{asked}
use Rattle.board.proofs.keeper.Keeper.look.Given as goal

abbrev pub ghosts-load_place : goal.ghosts-load_place
ghosts-load_place a = record { asked = asked a.self.now.board a.code a.place }
