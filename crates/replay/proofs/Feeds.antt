-- One line more, out of a stream.
use Rattle.std.proofs.Common.{◌≡◌, ℕ, ◌+◌, ◌<◌, ◌≤◌, ◌∙◌, sym, List, [], ◌∷◌, ◌++◌, length, take, drop, Option, refl, ap, subst, arith, append_assoc}
use Rattle.std.specs.List.{flat_map}
use Rattle.std.proofs.lemmas.List.{take-append-drop}
use Rattle.system.specs.World.{World}
use Rattle.replay.specs.declared.grammar.Command.{Command}
use Rattle.replay.specs.Grammar.{command_of}
use Rattle.replay.specs.Scanned.{first_at}
use Rattle.replay.specs.Printed.{reply_text}
use Rattle.replay.specs.Known.{AppendsPart, Grows}
use Rattle.replay.specs.Room.{CommandTakes, LineTakes}
use Rattle.replay.specs.Text.{SystemView, IsAt, reply_to, world_after_command, line_text, after_line, told}
use Rattle.replay.specs.Streams.{Point, Turned, IsPiece, ended, Front, after_lines, FedTo, Fed, ForEachStart, StoppedIn, BrokenIn}
use Rattle.replay.proofs.Lists.{append_none, take_plus, take_all}
use Rattle.replay.proofs.Growth.{grows_none, grows_on, grows_waits, broken}
use Rattle.replay.proofs.Splitting.{told_both, after_both, front_on, front_piece, join_pieces, then_newline}
use Rattle.replay.proofs.Streams.{enough, take_front}

pub fed_none : (world : Option World) (tail bytes : List ℕ) (old : Point) → IsAt old.system world → IsPiece tail → old.held ≡ take 1025 tail → FedTo world tail (take 0 bytes) old.waits old.got old
fed_none world tail bytes old at piece e = record {
  lines = [];
  rest = tail;
  splits = record { front = record { whole = append_none tail; each = tt }; partial = piece };
  holds = e;
  grows = grows_none old.got old.waits;
  at = at;
}

-- The lines of a beginning of the bytes are a front of them all.
all_of : (tail : List ℕ) (at : ℕ) (bytes : List ℕ) (ls : List (List ℕ)) (rest : List ℕ) → Front (tail ++ take at bytes) ls rest → Front (tail ++ bytes) ls (rest ++ drop at bytes)
all_of tail at bytes ls rest f = record {
  whole = ap (λ z. tail ++ z) (sym (take-append-drop at bytes)) ∙ sym (append_assoc tail (take at bytes) (drop at bytes))
      ∙ ap (λ z. z ++ drop at bytes) f.whole ∙ append_assoc (flat_map ended ls) rest (drop at bytes);
  each = f.each;
}

-- A front with one line more, which ends in the bytes.
front_line : (bytes : List ℕ) (ls : List (List ℕ)) (rest more : List ℕ) → Front bytes ls rest → IsPiece rest → first_at 10 more < length more
    → Front (bytes ++ take (first_at 10 more + 1) more) (ls ++ (rest ++ take (first_at 10 more) more) ∷ []) []
front_line bytes ls rest more f piece below =
    let newline = then_newline more below in
    front_on bytes (take (first_at 10 more + 1) more) ls ((rest ++ take (first_at 10 more) more) ∷ []) rest [] f (record {
      whole = ap (λ z. rest ++ z) newline ∙ sym (append_assoc rest (take (first_at 10 more) more) (10 ∷ [])) ∙ sym (append_none (ended (rest ++ take (first_at 10 more) more))) ∙ sym (append_none (ended (rest ++ take (first_at 10 more) more) ++ []));
      each = (join_pieces rest (take (first_at 10 more) more) piece (front_piece more), tt);
    })

line_front : (tail bytes : List ℕ) (at n : ℕ) (ls : List (List ℕ)) (rest : List ℕ) → n ≡ first_at 10 (drop at bytes) → n < length (drop at bytes) → Front (tail ++ take at bytes) ls rest → IsPiece rest
    → Front (tail ++ take (at + (n + 1)) bytes) (ls ++ (rest ++ take n (drop at bytes)) ∷ []) []
line_front tail bytes at n ls rest first below f partial =
    let longer : Front ((tail ++ take at bytes) ++ take (n + 1) (drop at bytes)) (ls ++ (rest ++ take n (drop at bytes)) ∷ []) []
    = subst (λ (k : ℕ). Front ((tail ++ take at bytes) ++ take (k + 1) (drop at bytes)) (ls ++ (rest ++ take k (drop at bytes)) ∷ []) []) (sym first)
    (front_line (tail ++ take at bytes) ls rest (drop at bytes) f partial (omega (arith, first))) in
    let bytes_are : (tail ++ take at bytes) ++ take (n + 1) (drop at bytes) ≡ tail ++ take (at + (n + 1)) bytes
    = append_assoc tail (take at bytes) (take (n + 1) (drop at bytes)) ∙ ap (λ z. tail ++ z) (sym (take_plus at (n + 1) bytes)) in
    subst (λ (z : List ℕ). Front z (ls ++ (rest ++ take n (drop at bytes)) ∷ []) []) bytes_are longer

fed_line : (world : Option World) (tail bytes waits : List ℕ) (got : Option (List ℕ)) (before : Point) (new : Option SystemView) (w2 : List ℕ) (at n : ℕ)
    → n ≡ first_at 10 (drop at bytes) → n < length (drop at bytes)
    → FedTo world tail (take at bytes) waits got before
    → Turned before.system (before.held ++ take n (drop at bytes)) before.waits w2 new
    → FedTo world tail (take (at + (n + 1)) bytes) waits got (record { system = new; held = []; waits = w2; got = before.got })
fed_line world tail bytes waits got before new w2 at n first below f turned =
    let piece = take n (drop at bytes) in
    let line = f.rest ++ piece in
    let known : Option World = after_lines world f.lines in
    let same : command_of (before.held ++ piece) ≡ command_of line = ap (λ z. command_of (z ++ piece)) f.holds ∙ enough f.rest piece in
    let said : (w2 ≡ before.waits ++ line_text known line) × IsAt new (after_line known line)
    = subst (λ (k : Option Command). (w2 ≡ before.waits ++ (reply_text (reply_to known k) ++ 10 ∷ [])) × IsAt new (world_after_command known k)) same (turned known f.at) in
    record {
      lines = f.lines ++ line ∷ [];
      rest = [];
      splits = record { front = line_front tail bytes at n f.lines f.rest first below f.splits.front f.splits.partial; partial = refl };
      holds = refl;
      grows = subst (λ (z : List ℕ). Grows got waits before.got w2 z) (sym (told_both world f.lines (line ∷ []) ∙ ap (λ z. told world f.lines ++ z) (append_none (line_text known line))))
          (grows_on got before.got before.got waits before.waits w2 (told world f.lines) (line_text known line) f.grows (grows_waits before.got before.waits w2 (line_text known line) said.0));
      at = subst (λ (z : Option World). IsAt new z) (sym (after_both world f.lines (line ∷ []))) said.1;
    }

pub fed_relieved : (world : Option World) (tail bytes waits : List ℕ) (got : Option (List ℕ)) (before : Point) (w2 : List ℕ) (g2 : Option (List ℕ)) → FedTo world tail bytes waits got before → Grows before.got before.waits g2 w2 []
    → FedTo world tail bytes waits got (record before { waits = w2; got = g2 })
fed_relieved world tail bytes waits got before w2 g2 f k = record {
  lines = f.lines;
  rest = f.rest;
  splits = f.splits;
  holds = f.holds;
  grows = subst (λ (z : List ℕ). Grows got waits g2 w2 z) (append_none (told world f.lines)) (grows_on got before.got g2 waits before.waits w2 (told world f.lines) [] f.grows k);
  at = f.at;
}

-- In p, the bytes behind the first ones, the first newline stands behind n bytes.
pub record NextLine (bytes : List ℕ) (at n : ℕ) (p : List ℕ) : Type 0 where
  pub rest_is : p ≡ drop at bytes
  pub first : n ≡ first_at 10 p
  pub below : n < length p

-- The line at `at`, whose newline is the first one, was answered.
turned_line : (old before : Point) (bytes p : List ℕ) (new : Option SystemView) (held' w2 : List ℕ) (at n : ℕ)
    → Fed old (take at bytes) before → NextLine bytes at n p
    → Turned before.system (before.held ++ take n p) before.waits w2 new → held' ≡ []
    → Fed old (take (at + (n + 1)) bytes) (record { system = new; held = held'; waits = w2; got = before.got })
turned_line old before bytes p new held' w2 at n fed next turned none = λ world is tail piece holds.
    let there : Turned before.system (before.held ++ take n (drop at bytes)) before.waits w2 new = subst (λ (z : List ℕ). Turned before.system (before.held ++ take n z) before.waits w2 new) next.rest_is turned in
    let line = fed_line world tail bytes old.waits old.got before new w2 at n (next.first ∙ ap (first_at 10) next.rest_is) (let low = next.below in omega (arith, low, ap length next.rest_is)) (fed world is tail piece holds) there in
    subst (λ (z : List ℕ). FedTo world tail (take (at + (n + 1)) bytes) old.waits old.got (record { system = new; held = z; waits = w2; got = before.got })) (sym none) line

-- One line more: it was answered, and then as much was written as had to be.
pub next_line : (old before : Point) (bytes p : List ℕ) (after : Point) (w2 : List ℕ) (at n : ℕ)
    → Fed old (take at bytes) before → NextLine bytes at n p
    → Turned before.system (before.held ++ take n p) before.waits w2 after.system → after.held ≡ [] → Grows before.got w2 after.got after.waits []
    → Fed old (take (at + (n + 1)) bytes) (record { system = after.system; held = after.held; waits = after.waits; got = after.got })
next_line old before bytes p after w2 at n fed next turned none grows = λ world is tail piece holds.
    fed_relieved world tail (take (at + (n + 1)) bytes) old.waits old.got (record { system = after.system; held = after.held; waits = w2; got = before.got }) after.waits after.got
    (turned_line old before bytes p after.system after.held w2 at n fed next turned none world is tail piece holds) grows

-- What stands behind the last newline is held.
pub last_piece : (old before : Point) (bytes p held' : List ℕ) (at n : ℕ)
    → Fed old (take at bytes) before → p ≡ drop at bytes → n ≡ first_at 10 p → length p ≤ n → n ≤ length p → held' ≡ take 1025 (before.held ++ p)
    → Fed old bytes (record before { held = held' })
last_piece old before bytes p held' at n fed e first least most holds' = λ world is tail piece holds.
    let f = fed world is tail piece holds in
    let no_end : IsPiece p = omega (arith, first, least, most) in
    let behind : IsPiece (drop at bytes) = subst (λ (z : List ℕ). IsPiece z) e no_end in
    record {
      lines = f.lines;
      rest = f.rest ++ drop at bytes;
      splits = record {
        front = all_of tail at bytes f.lines f.rest f.splits.front;
        partial = join_pieces f.rest (drop at bytes) f.splits.partial behind;
      };
      holds = holds' ∙ ap (λ z. take 1025 (z ++ p)) f.holds ∙ ap (λ z. take 1025 (take 1025 f.rest ++ z)) e ∙ take_front f.rest (drop at bytes);
      grows = f.grows;
      at = f.at;
    }

pub all_fed : (old new : Point) (bytes : List ℕ) (at : ℕ) → Fed old (take at bytes) new → length bytes ≤ at → Fed old bytes new
all_fed old new bytes at fed all = λ world is tail piece holds.
    subst (λ (z : List ℕ). FedTo world tail z old.waits old.got new) (take_all at bytes all) (fed world is tail piece holds)

-- Memory was refused at the line behind what was fed.
pub stopped_at : (old before : Point) (bytes p w2 : List ℕ) (at n : ℕ)
    → Fed old (take at bytes) before → NextLine bytes at n p → w2 ≡ before.waits
    → ((world : Option World) → IsAt before.system world → LineTakes world (before.held ++ take n p))
    → ForEachStart old (λ world tail. StoppedIn world (tail ++ bytes) old.waits old.got w2 before.got)
stopped_at old before bytes p w2 at n fed next same takes = λ world is tail piece holds.
    let f = fed world is tail piece holds in
    let known : Option World = after_lines world f.lines in
    let more = take n (drop at bytes) in
    let spelled : command_of (before.held ++ take n p) ≡ command_of (f.rest ++ more) = ap (λ z. command_of (before.held ++ take n z)) next.rest_is ∙ ap (λ z. command_of (z ++ more)) f.holds ∙ enough f.rest more in
    record {
      lines = f.lines;
      line = f.rest ++ more;
      rest = drop (at + (n + 1)) bytes;
      front = all_of tail (at + (n + 1)) bytes (f.lines ++ (f.rest ++ more) ∷ []) []
          (line_front tail bytes at n f.lines f.rest (next.first ∙ ap (first_at 10) next.rest_is) (let low = next.below in omega (arith, low, ap length next.rest_is)) f.splits.front f.splits.partial);
      takes = subst (λ (k : Option Command). CommandTakes known k) spelled (takes known f.at);
      grows = subst (λ (z : List ℕ). Grows old.got old.waits before.got z (told world f.lines)) (sym same) f.grows;
    }

-- A write failed after one line more.
pub broken_at : (old before : Point) (bytes p : List ℕ) (new : Option SystemView) (held' w2 : List ℕ) (g2 : Option (List ℕ)) (at n : ℕ)
    → Fed old (take at bytes) before → NextLine bytes at n p
    → Turned before.system (before.held ++ take n p) before.waits w2 new → held' ≡ [] → AppendsPart before.got g2 w2
    → ForEachStart old (λ world tail. BrokenIn world (tail ++ bytes) old.waits old.got g2)
broken_at old before bytes p new held' w2 g2 at n fed next turned none part = λ world is tail piece holds.
    let f = turned_line old before bytes p new held' w2 at n fed next turned none world is tail piece holds in
    record {
      lines = f.lines;
      rest = f.rest ++ drop (at + (n + 1)) bytes;
      front = all_of tail (at + (n + 1)) bytes f.lines f.rest f.splits.front;
      part = broken old.got before.got g2 old.waits w2 (told world f.lines) f.grows part;
    }
