use Rattle.test_running.proofs.tests.meeting.meet_once.Given as goal

abbrev pub ghosts-meet : goal.ghosts-meet
ghosts-meet g a = record { board = a.parts.board; poll_row = a.parts.row }
