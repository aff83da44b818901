use Rattle.std.proofs.Common.{◌≡◌, ◌≤◌}
use Rattle.cli.specs.CommandLine.{spelled, most_threads}
use Rattle.cli.proofs.command_line.thread_count.Given as goal

abbrev pub decreases-loop-count : goal.decreases-loop-count
decreases-loop-count l = l.count

abbrev pub invariant-loop-count : goal.invariant-loop-count
invariant-loop-count l = (l.count ≤ most_threads) × (spelled most_threads l.word ≡ spelled l.count l.word)
