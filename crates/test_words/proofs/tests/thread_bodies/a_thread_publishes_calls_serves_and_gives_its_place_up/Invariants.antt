use Rattle.test_words.proofs.tests.thread_bodies.a_thread_publishes_calls_serves_and_gives_its_place_up.Given as goal

abbrev pub ghosts-live : goal.ghosts-live
ghosts-live g a = record { board = a.board; poll_row = a.row }
