use Rattle.test_calls.proofs.tests.rows.WithJobsScenario.play.Given as goal

abbrev pub ghosts-play_over : goal.ghosts-play_over
ghosts-play_over g a = record { board = a.parts.board; poll_row = a.parts.row }
