-- A slot of the board is its newest code.
use Rattle.tie.proofs.DeskTargets as law
use Rattle.tie.proofs.desk_laws.desk_and_board_are_of_one_world.Goals as goal

pub returns : goal.returns
returns c = law.one_world
