use Rattle.std.proofs.Common.{◌≡◌, length, map}
use Rattle.std.specs.Prelude.{IfSome, string_bytes}
use Rattle.cli.proofs.Behind.{Begins}
use Rattle.cli.proofs.words.read_words.Given as goal

abbrev pub invariant-loop-behind : goal.invariant-loop-behind
invariant-loop-behind g l =
    (length l.words.items ≡ l.behind) × IfSome (g.L.CommandLine.words l.line) (λ all. Begins (map string_bytes l.words.items) all)
