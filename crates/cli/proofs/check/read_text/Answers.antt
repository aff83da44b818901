use Rattle.std.proofs.Common.{◌≡◌, ◌++◌, ◌+◌, ◌<◌, List, ℕ, length, take, subst, arith, sym}
use Rattle.std.specs.Io.KnownBytes.{Consumes}
use Rattle.cli.proofs.Enough.{taken_on, all_taken, block_is, more_read}
use Rattle.cli.proofs.check.read_text.Goals as goal

pub returns-then-n-eq0-clause-text : goal.returns-then-n-eq0-clause-text
returns-then-n-eq0-clause-text g c =
    let bytes = c.in-Ok.ensures.bytes in
    let room : 0 < length c.read.new.buf = omega (arith, c.read.auto.buf, c.deref_mut.ensures.len, c.loop-source.invariant.room) in
    all_taken (g.R.Source.left c.args.source.now) (g.R.Source.left c.loop-source.source) (g.R.Source.left c.read.new.self) c.loop-source.text.items c.read.new.buf c.in-Ok.n c.loop-source.invariant.taken c.if-n-eq0.true bytes.0 (bytes.1 c.if-n-eq0.true room)

pub loop-source-preserved : goal.loop-source-preserved
loop-source-preserved g c =
    let block = block_is c.read.new.buf c.loop-source.block.items c.loop-source.block.len (omega (arith, c.read.auto.buf, c.deref_mut.ensures.len)) in
    let grown : c.extend_from_slice.new.self.items ≡ c.loop-source.text.items ++ take c.in-Ok.n c.read.new.buf
    = subst (λ (z : List ℕ). c.extend_from_slice.new.self.items ≡ c.loop-source.text.items ++ take c.in-Ok.n z) block (rw c.deref.ensures.value at c.in_ok-extend_from_slice.ensures.items) in
    let longer : c.extend_from_slice.new.self.len ≡ c.loop-source.text.len + length (take c.in-Ok.n c.read.new.buf)
    = subst (λ (z : List ℕ). c.extend_from_slice.new.self.len ≡ c.loop-source.text.len + length (take c.in-Ok.n z)) block (rw c.deref.ensures.value at c.in_ok-extend_from_slice.ensures.len) in
    record {
      fresh = c.in-Ok.ensures.failures;
      few = more_read c.in-Ok.n (g.R.Source.reads c.loop-source.source) (g.R.Source.reads c.read.new.self) c.loop-source.text.len c.extend_from_slice.new.self.len c.read.new.buf c.if-n-eq0.false c.in-Ok.ensures.reads c.loop-source.invariant.few c.in-Ok.ensures.bound longer;
      room = c.loop-source.invariant.room;
      taken = subst (λ (z : List ℕ). Consumes (g.R.Source.left c.args.source.now) (g.R.Source.left c.read.new.self) z) (sym grown) (taken_on (g.R.Source.left c.args.source.now) (g.R.Source.left c.loop-source.source) (g.R.Source.left c.read.new.self) c.loop-source.text.items (take c.in-Ok.n c.read.new.buf) c.loop-source.invariant.taken c.in-Ok.ensures.bytes.0);
    }
