use Rattle.std.proofs.Common.{◌≤◌, ◌-◌, vec_len}
use Rattle.thread_list.proofs.hints.Hints.new.Given as goal

abbrev pub invariant-loop-words : goal.invariant-loop-words
invariant-loop-words l = vec_len l.words ≤ l.methods

abbrev pub decreases-loop-words : goal.decreases-loop-words
decreases-loop-words l = l.methods - vec_len l.words
