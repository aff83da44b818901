use Rattle.std.proofs.Common.{rules, tests, ◌≡◌, ◌++◌, ◌∷◌, []}
use Rattle.call_log.proofs.Clean.{clean_push, text_push}
use Rattle.call_log.proofs.reading.read_calls.Goals as goal

pub loop-rest-preserved : goal.loop-rest-preserved
loop-rest-preserved c =
    let items : c.push.new.self.items ≡ c.loop-rest.calls.items ++ c.in-Ok.entry ∷ [] = search (rules, tests) in
    let whole : c.loop-rest.rest.now ≡ c.in-Some.line.now ++ 10 ∷ c.in-Some.behind.now = search rules in
    (rw items (text_push _ _ _ _ _ _ c.loop-rest.invariant.0 whole c.in-Ok.ensures.spelled), rw items (clean_push _ _ _ c.in-Ok.ensures.spelled c.in-Ok.ensures.clean c.loop-rest.invariant.1))
