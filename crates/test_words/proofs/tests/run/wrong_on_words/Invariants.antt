use Rattle.test_words.proofs.tests.run.wrong_on_words.Given as goal

abbrev pub ghosts-wrong_on : goal.ghosts-wrong_on
ghosts-wrong_on a = record { board = a.board; poll_row = a.row }
