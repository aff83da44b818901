use Rattle.std.proofs.Common.{length}
use Rattle.test_words.proofs.tests.thread_bodies.return_all.Given as goal

abbrev pub decreases-loop-body : goal.decreases-loop-body
decreases-loop-body g l = length l.body.image.frames
