use Rattle.std.proofs.Common.{◌≡◌, ◌++◌, drop}
use Rattle.recorder.specs.Streams.{are_whole, texts}
use Rattle.recorder.proofs.writing.put_streams.Given as goal

abbrev pub invariant-loop-stream : goal.invariant-loop-stream
invariant-loop-stream l =
    (l.text.items ++ texts (drop l.stream-index l.streams) ≡ l.fn.text.items ++ texts l.streams)
    × (are_whole (drop l.stream-index l.streams) ≡ are_whole l.streams)
