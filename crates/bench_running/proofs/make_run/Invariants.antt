use Rattle.bench_running.proofs.make_run.Given as goal

abbrev pub ghosts-run : goal.ghosts-run
ghosts-run g a = record { board = a.parts.board; poll_row = a.parts.row }
