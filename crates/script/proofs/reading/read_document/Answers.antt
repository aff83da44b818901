use Rattle.std.proofs.Common.{◌<◌, ◌≤◌, ◌≢◌, vec_len, inr, sym, arith}
use Rattle.std.proofs.lemmas.Bool.{eqb-false}
use Rattle.serde_json.specs.Events.{items_len}
use Rattle.serde_json.specs.View.{view, items_view}
use Rattle.script.proofs.MethodsSoFar.{items_len-items_view}
use Rattle.script.proofs.Documents.{too_many, faults_of_methods, reads_document}
use Rattle.script.proofs.reading.read_document.Goals as goal

pub returns-then-len-gt-MAX_METHODS : goal.returns-then-len-gt-MAX_METHODS
returns-then-len-gt-MAX_METHODS c =
    let ds = items_view c.in-Some.methods.now.items in
    let many : 256 < items_len ds = omega (arith, items_len-items_view c.in-Some.methods.now.items, c.len.ensures, c.if-len-gt-MAX_METHODS.true) in
    inr (rw (c.refuse-then-len-gt-MAX_METHODS.ensures.fault, c.requires.place) (too_many (view c.args.document.now) ds c.in-Some.ensures many))

pub returns : goal.returns
returns c =
    let ds = items_view c.in-Some.methods.now.items in
    let len = items_len-items_view c.in-Some.methods.now.items in
    let held : vec_len c.in-Some.methods.now ≢ 0 = eqb-false (vec_len c.in-Some.methods.now) 0 (sym c.if-is_empty.ensures) in
    let some : 0 < items_len ds = omega (arith, len, held) in
    let few : items_len ds ≤ 256 = omega (arith, len, c.len.ensures, c.if-len-gt-MAX_METHODS.false) in
    reads_document (view c.args.document.now) ds c.read_methods.result c.in-Some.ensures (faults_of_methods (view c.args.document.now) ds c.in-Some.ensures some few)
    c.read_methods.ensures.ok c.read_methods.ensures.clean c.read_methods.ensures.err
