use Rattle.test_desk.proofs.tests.TableScenario.play.Given as goal

abbrev pub ghosts-play_on_desk : goal.ghosts-play_on_desk
ghosts-play_on_desk g a = record { board = a.board; poll_row = a.row }
