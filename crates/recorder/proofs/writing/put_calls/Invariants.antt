use Rattle.std.proofs.Common.{◌≡◌, ◌++◌, drop}
use Rattle.call_log.specs.Spelled.{calls_text}
use Rattle.recorder.proofs.writing.put_calls.Given as goal

abbrev pub invariant-loop-call : goal.invariant-loop-call
invariant-loop-call l = l.text.items ++ calls_text (drop l.call-index l.calls) ≡ l.fn.text.items ++ calls_text l.calls
