use Rattle.std.proofs.Common.{rules, ◌≡◌, ◌∙◌, ◌+◌, ◌++◌, [], ◌∷◌, map, subst, sym, length}
use Rattle.std.proofs.lemmas.List.{length-map, map-append}
use Rattle.std.specs.Prelude.{IfSome, string_bytes, option_map, slice_get}
use Rattle.cli.proofs.Behind.{Begins, no_words, all_words, more_words}
use Rattle.cli.proofs.words.read_words.Goals as goal

pub loop-behind-init : goal.loop-behind-init
loop-behind-init g c = (
  search rules,
  subst (λ ws. IfSome (g.L.CommandLine.words c.args.line.now) (λ all. Begins (map string_bytes ws) all)) (sym c.new-words.ensures.items)
      (no_words (g.L.CommandLine.words c.args.line.now)),
)

pub returns-in_default-clause-words : goal.returns-in_default-clause-words
returns-in_default-clause-words g c =
    let was = c.loop-behind.invariant in
    let none = subst (λ w. IfSome (g.L.CommandLine.words c.args.line.now) (λ all. option_map string_bytes w ≡ slice_get all (c.loop-behind.behind + 1)))
    c.in_default.is c.in_ok-word.ensures.word in
    let long : length (map string_bytes c.loop-behind.words.items) ≡ c.loop-behind.behind = length-map c.loop-behind.words.items string_bytes ∙ was.0 in
    all_words (g.L.CommandLine.words c.args.line.now) (map string_bytes c.loop-behind.words.items) c.loop-behind.behind long was.1 none

pub loop-behind-preserved : goal.loop-behind-preserved
loop-behind-preserved g c =
    let was = c.loop-behind.invariant in
    let next = subst (λ w. IfSome (g.L.CommandLine.words c.args.line.now) (λ all. option_map string_bytes w ≡ slice_get all (c.loop-behind.behind + 1)))
    c.in-Some.is c.in_ok-word.ensures.word in
    let long : length (map string_bytes c.loop-behind.words.items) ≡ c.loop-behind.behind = length-map c.loop-behind.words.items string_bytes ∙ was.0 in
    let grown : c.push.new.self.items ≡ c.loop-behind.words.items ++ c.in-Some.word ∷ [] = search rules in (
      search rules,
      subst (λ ws. IfSome (g.L.CommandLine.words c.args.line.now) (λ all. Begins (map string_bytes ws) all)) (sym grown)
          (subst (λ ws. IfSome (g.L.CommandLine.words c.args.line.now) (λ all. Begins ws all)) (sym (map-append string_bytes c.loop-behind.words.items (c.in-Some.word ∷ [])))
          (more_words (g.L.CommandLine.words c.args.line.now) (map string_bytes c.loop-behind.words.items) (string_bytes c.in-Some.word) c.loop-behind.behind long was.1 next)),
    )
