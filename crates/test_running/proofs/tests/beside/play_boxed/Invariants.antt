use Rattle.test_running.proofs.tests.beside.play_boxed.Given as goal

abbrev pub ghosts-run : goal.ghosts-run
ghosts-run g a = record { board = a.parts.board; poll_row = a.parts.row }
