-- Block after block, and how a call ends.
use Rattle.std.proofs.Common.{◌≡◌, ◌≢◌, inl, inr, ℕ, ◌+◌, ◌∙◌, zero, suc, sym, cond, false, List, [], ◌∷◌, ◌++◌, length, take, drop, Option, Some, None, refl, ap, subst, arith, append_assoc}
use Rattle.std.specs.Prelude.{◌==◌, IfSome, Result, Ok, Err}
use Rattle.replay.specs.declared.stream.Halt.{Halt}
use Rattle.replay.specs.declared.stream.Halt.TheVariants as halt
use Rattle.replay.specs.declared.stream.ReplayFault.{ReplayFault}
use Rattle.replay.specs.declared.stream.ReplayFault.TheVariants.{ReadFailed, WriteFailed, NoMemory}
use Rattle.std.specs.Io.KnownBytes.{Appends, Consumes, IsAtEnd, Keeps}
use Rattle.std.proofs.Math.Seq.{take-append_seam}
use Rattle.system.specs.World.{World}
use Rattle.replay.specs.Words.{lines}
use Rattle.replay.specs.Printed.{reply_text}
use Rattle.replay.specs.declared.grammar.Command.{Command}
use Rattle.replay.specs.Grammar.{command_of}
use Rattle.replay.specs.Known.{AppendsPart, Grows}
use Rattle.replay.specs.Room.{CommandTakes, LineTakes}
use Rattle.replay.specs.Text.{SystemView, IsAt, told, text, reply_to}
use Rattle.replay.specs.Streams.{Point, Front, after_lines, last_of, FedTo, Fed, ForEachStart, StoppedIn, BrokenIn, Finished, FedBy, GaveUp}
use Rattle.replay.specs.Outcome.{SoFar, WroteAll, WroteLines, WrotePart, WroteBefore, Wrote}
use Rattle.replay.proofs.Lists.{append_none}
use Rattle.replay.proofs.Streams.{same_line}
use Rattle.replay.proofs.Growth.{grows_on, flushed, appended, broken, part_more, then_part, appends_on}
use Rattle.replay.proofs.Splitting.{told_both, after_both, front_on, text_of_front, text_of_splits}
use Rattle.replay.proofs.Feeds.{fed_none, fed_relieved}

-- One block more.
pub fed_through : (world : Option World) (tail bytes more waits : List ℕ) (got : Option (List ℕ)) (mid new : Point) → FedTo world tail bytes waits got mid → Fed mid more new → FedTo world tail (bytes ++ more) waits got new
fed_through world tail bytes more waits got mid new f k =
    let known : Option World = after_lines world f.lines in
    let h = k known f.at f.rest f.splits.partial f.holds in
    record {
      lines = f.lines ++ h.lines;
      rest = h.rest;
      splits = record {
        front = subst (λ (z : List ℕ). Front z (f.lines ++ h.lines) h.rest) (append_assoc tail bytes more) (front_on (tail ++ bytes) more f.lines h.lines f.rest h.rest f.splits.front h.splits.front);
        partial = h.splits.partial;
      };
      holds = h.holds;
      grows = subst (λ (z : List ℕ). Grows got waits new.got new.waits z) (sym (told_both world f.lines h.lines)) (grows_on got mid.got new.got waits mid.waits new.waits (told world f.lines) (told known h.lines) f.grows h.grows);
      at = subst (λ (z : Option World). IsAt new.system z) (sym (after_both world f.lines h.lines)) h.at;
    }

pub so_far_start : (left got : Option (List ℕ)) → SoFar left left got got None []
so_far_start left got = record { read = []; consumed = same left; fed = fed_none None [] [] (record { system = None; held = []; waits = []; got = got }) tt refl refl }
  where
    same : (left : Option (List ℕ)) → Consumes left left []
    same None = tt
    same (Some xs) = refl

consumed_on : (a b c : Option (List ℕ)) (x y : List ℕ) → Consumes a b x → Consumes b c y → Consumes a c (x ++ y)
consumed_on None b c x y h k = tt
consumed_on (Some a) None c x y h k = absurd h
consumed_on (Some a) (Some b) None x y h k = absurd k
consumed_on (Some a) (Some b) (Some c) x y h k = h ∙ ap (λ z. x ++ z) k ∙ sym (append_assoc x y c)

consumed_kept : (a b c : Option (List ℕ)) (x : List ℕ) → Consumes a b x → Keeps b c → Consumes a c x
consumed_kept None b c x h k = tt
consumed_kept (Some a) None c x h k = absurd h
consumed_kept (Some a) (Some b) None x h k = absurd k
consumed_kept (Some a) (Some b) (Some c) x h k = h ∙ ap (λ z. x ++ z) (sym k)

-- Another block was read, at a point at which nothing waits: the source had left0 at the start, left before the block and left2
-- behind it, and the sink had g0 at the start.
pub record BlockRead (left0 left left2 g0 : Option (List ℕ)) (old : Point) (bytes : List ℕ) : Type 0 where
  pub so : SoFar left0 left g0 old.got old.system old.held
  pub consumed : Consumes left left2 bytes
  pub none : old.waits ≡ []

-- It was fed.
record BlockFed (left0 left2 g0 : Option (List ℕ)) (new : Point) : Type 0 where
  read : List ℕ
  consumed : Consumes left0 left2 read
  fed : FedTo None [] read [] g0 new

block_fed : (left0 left left2 g0 : Option (List ℕ)) (old new : Point) (bytes : List ℕ) → BlockRead left0 left left2 g0 old bytes → Fed old bytes new → BlockFed left0 left2 g0 new
block_fed left0 left left2 g0 old new bytes b fed = record {
  read = b.so.read ++ bytes;
  consumed = consumed_on left0 left left2 b.so.read bytes b.so.consumed b.consumed;
  fed = fed_through None [] b.so.read bytes [] g0 (record { system = old.system; held = old.held; waits = []; got = old.got }) new b.so.fed
      (subst (λ (z : List ℕ). Fed (record { system = old.system; held = old.held; waits = z; got = old.got }) bytes new) b.none fed);
}

pub so_far_more : (left0 left left2 g0 g3 : Option (List ℕ)) (old new : Point) (bytes : List ℕ) → BlockRead left0 left left2 g0 old bytes → Fed old bytes new → Appends new.got g3 new.waits → SoFar left0 left2 g0 g3 new.system new.held
so_far_more left0 left left2 g0 g3 old new bytes read fed written =
    let b = block_fed left0 left left2 g0 old new bytes read fed in
    record { read = b.read; consumed = b.consumed; fed = fed_relieved None [] b.read [] g0 new [] g3 b.fed (flushed new.got g3 new.waits written) }

-- A beginning of the text of a front is one of the whole text.
part_of_text : (g0 g : Option (List ℕ)) (read : List ℕ) (ls : List (List ℕ)) (rest : List ℕ) → Front read ls rest → AppendsPart g0 g (told None ls) → AppendsPart g0 g (text read)
part_of_text g0 g read ls rest f part =
    subst (λ (z : List ℕ). AppendsPart g0 g z) (sym (text_of_front read ls rest f)) (part_more g0 g (told None ls) (told (after_lines None ls) (lines rest)) part)

-- The write of what waits after a block failed.
pub unwritten : (left0 left left2 g0 g3 : Option (List ℕ)) (old new : Point) (bytes : List ℕ) → BlockRead left0 left left2 g0 old bytes → Fed old bytes new → AppendsPart new.got g3 new.waits → WrotePart left0 left2 g0 g3
unwritten left0 left left2 g0 g3 old new bytes read fed part =
    let b = block_fed left0 left left2 g0 old new bytes read fed in
    record {
      read = b.read;
      consumed = b.consumed;
      written = part_of_text g0 g3 b.read b.fed.lines b.fed.rest b.fed.splits.front (broken g0 new.got g3 [] new.waits (told None b.fed.lines) b.fed.grows part);
    }

-- A write in the midst of a block failed.
pub broken_off : (left0 left left2 g0 g2 : Option (List ℕ)) (old : Point) (bytes : List ℕ) → BlockRead left0 left left2 g0 old bytes
    → ForEachStart old (λ world tail. BrokenIn world (tail ++ bytes) old.waits old.got g2) → WrotePart left0 left2 g0 g2
broken_off left0 left left2 g0 g2 old bytes b fed =
    let f = b.so.fed in
    let known : Option World = after_lines None f.lines in
    let h = fed known f.at f.rest f.splits.partial f.holds in
    let part : AppendsPart old.got g2 (told known h.lines) = subst (λ (z : List ℕ). AppendsPart old.got g2 (z ++ told known h.lines)) b.none h.part in
    record {
      read = b.so.read ++ bytes;
      consumed = consumed_on left0 left left2 b.so.read bytes b.so.consumed b.consumed;
      written = part_of_text g0 g2 (b.so.read ++ bytes) (f.lines ++ h.lines) h.rest (front_on b.so.read bytes f.lines h.lines f.rest h.rest f.splits.front h.front)
          (subst (λ (z : List ℕ). AppendsPart g0 g2 z) (sym (told_both None f.lines h.lines)) (then_part g0 old.got g2 (told None f.lines) (told known h.lines) (appended g0 old.got (told None f.lines) f.grows) part));
    }

-- Memory was refused in the midst of a block; this is how far it is answered.
record BlockStopped (left0 left2 g0 g2 : Option (List ℕ)) (w2 : List ℕ) : Type 0 where
  read : List ℕ
  lines : List (List ℕ)
  line : List ℕ
  rest : List ℕ
  consumed : Consumes left0 left2 read
  front : Front read (lines ++ line ∷ []) rest
  takes : LineTakes (after_lines None lines) line
  grows : Grows g0 [] g2 w2 (told None lines)

block_stopped : (left0 left left2 g0 g2 : Option (List ℕ)) (old : Point) (bytes w2 : List ℕ) → BlockRead left0 left left2 g0 old bytes
    → ForEachStart old (λ world tail. StoppedIn world (tail ++ bytes) old.waits old.got w2 g2) → BlockStopped left0 left2 g0 g2 w2
block_stopped left0 left left2 g0 g2 old bytes w2 b fed =
    let f = b.so.fed in
    let known : Option World = after_lines None f.lines in
    let h = fed known f.at f.rest f.splits.partial f.holds in
    let grows : Grows old.got [] g2 w2 (told known h.lines) = subst (λ (z : List ℕ). Grows old.got z g2 w2 (told known h.lines)) b.none h.grows in
    record {
      read = b.so.read ++ bytes;
      lines = f.lines ++ h.lines;
      line = h.line;
      rest = h.rest;
      consumed = consumed_on left0 left left2 b.so.read bytes b.so.consumed b.consumed;
      front = subst (λ (ls : List (List ℕ)). Front (b.so.read ++ bytes) ls h.rest) (sym (append_assoc f.lines h.lines (h.line ∷ []))) (front_on b.so.read bytes f.lines (h.lines ++ h.line ∷ []) f.rest h.rest f.splits.front h.front);
      takes = subst (λ (w : Option World). LineTakes w h.line) (sym (after_both None f.lines h.lines)) h.takes;
      grows = subst (λ (z : List ℕ). Grows g0 [] g2 w2 z) (sym (told_both None f.lines h.lines)) (grows_on g0 old.got g2 [] [] w2 (told None f.lines) (told known h.lines) f.grows grows);
    }

pub stopped_written : (left0 left left2 g0 g2 g3 : Option (List ℕ)) (old : Point) (bytes w2 : List ℕ) → BlockRead left0 left left2 g0 old bytes
    → ForEachStart old (λ world tail. StoppedIn world (tail ++ bytes) old.waits old.got w2 g2) → Appends g2 g3 w2 → WroteBefore left0 left2 g0 g3
stopped_written left0 left left2 g0 g2 g3 old bytes w2 read fed written =
    let b = block_stopped left0 left left2 g0 g2 old bytes w2 read fed in
    record {
      read = b.read;
      lines = b.lines;
      line = b.line;
      consumed = b.consumed;
      next = inl (b.rest, b.front);
      takes = b.takes;
      written = appended g0 g3 (told None b.lines) (subst (λ (z : List ℕ). Grows g0 [] g3 [] z) (append_none (told None b.lines)) (grows_on g0 g2 g3 [] w2 [] (told None b.lines) [] b.grows (flushed g2 g3 w2 written)));
    }

pub stopped_unwritten : (left0 left left2 g0 g2 g3 : Option (List ℕ)) (old : Point) (bytes w2 : List ℕ) → BlockRead left0 left left2 g0 old bytes
    → ForEachStart old (λ world tail. StoppedIn world (tail ++ bytes) old.waits old.got w2 g2) → AppendsPart g2 g3 w2 → WrotePart left0 left2 g0 g3
stopped_unwritten left0 left left2 g0 g2 g3 old bytes w2 read fed part =
    let b = block_stopped left0 left left2 g0 g2 old bytes w2 read fed in
    record {
      read = b.read;
      consumed = b.consumed;
      written = part_of_text g0 g3 b.read (b.lines ++ b.line ∷ []) b.rest b.front
          (subst (λ (z : List ℕ). AppendsPart g0 g3 z) (sym (told_both None b.lines (b.line ∷ []))) (part_more g0 g3 (told None b.lines) (told (after_lines None b.lines) (b.line ∷ [])) (broken g0 g2 g3 [] w2 (told None b.lines) b.grows part)));
    }

-- A read failed, or there were too many.
pub unread : (left0 left left2 g0 g1 : Option (List ℕ)) (s : Option SystemView) (held : List ℕ) → SoFar left0 left g0 g1 s held → Keeps left left2 → WroteLines left0 left2 g0 g1
unread left0 left left2 g0 g1 s held so keeps = record {
  read = so.read;
  lines = so.fed.lines;
  rest = so.fed.rest;
  consumed = consumed_kept left0 left left2 so.read so.consumed keeps;
  splits = so.fed.splits;
  written = appended g0 g1 (told None so.fed.lines) so.fed.grows;
}

pub too_many : (left0 left g0 g1 : Option (List ℕ)) (s : Option SystemView) (held : List ℕ) → SoFar left0 left g0 g1 s held → WroteLines left0 left g0 g1
too_many left0 left g0 g1 s held so = unread left0 left left g0 g1 s held so (kept left)
  where
    kept : (left : Option (List ℕ)) → Keeps left left
    kept None = tt
    kept (Some xs) = refl

same_last : (world : Option World) (rest : List ℕ) → told world (last_of (take 1025 rest)) ≡ told world (last_of rest)
same_last world [] = refl
same_last world (b ∷ bytes) = ap (λ k. (reply_text (reply_to world k) ++ 10 ∷ []) ++ []) (same_line (b ∷ bytes))

-- The end was read.
consumed_end : (left0 left left2 : Option (List ℕ)) (read : List ℕ) → Consumes left0 left read → Consumes left left2 [] → Consumes left0 left2 read
consumed_end left0 left left2 read so consumed = subst (λ (z : List ℕ). Consumes left0 left2 z) (append_none read) (consumed_on left0 left left2 read [] so consumed)

pub finished_all : (left0 left left2 g0 g1 g2 : Option (List ℕ)) (s : Option SystemView) (held : List ℕ) → SoFar left0 left g0 g1 s held → Consumes left left2 [] → IsAtEnd left2
    → ((world : Option World) → IsAt s world → Appends g1 g2 (told world (last_of held))) → WroteAll left0 left2 g0 g2
finished_all left0 left left2 g0 g1 g2 s held so consumed end finished =
    let f = so.fed in
    let known : Option World = after_lines None f.lines in
    let last : Appends g1 g2 (told known (last_of f.rest))
    = subst (λ (z : List ℕ). Appends g1 g2 z) (ap (λ z. told known (last_of z)) f.holds ∙ same_last known f.rest) (finished known f.at) in
    record {
      read = so.read;
      consumed = consumed_end left0 left left2 so.read so.consumed consumed;
      at_end = end;
      written = subst (λ (z : List ℕ). Appends g0 g2 z) (sym (text_of_splits so.read f.lines f.rest f.splits))
          (appends_on g0 g1 g2 (told None f.lines) (told known (last_of f.rest)) (appended g0 g1 (told None f.lines) f.grows) last);
    }

pub finished_part : (left0 left left2 g0 g1 g2 : Option (List ℕ)) (s : Option SystemView) (held : List ℕ) → SoFar left0 left g0 g1 s held → Consumes left left2 []
    → ((world : Option World) → IsAt s world → AppendsPart g1 g2 (told world (last_of held))) → WrotePart left0 left2 g0 g2
finished_part left0 left left2 g0 g1 g2 s held so consumed finished =
    let f = so.fed in
    let known : Option World = after_lines None f.lines in
    let last : AppendsPart g1 g2 (told known (last_of f.rest))
    = subst (λ (z : List ℕ). AppendsPart g1 g2 z) (ap (λ z. told known (last_of z)) f.holds ∙ same_last known f.rest) (finished known f.at) in
    record {
      read = so.read;
      consumed = consumed_end left0 left left2 so.read so.consumed consumed;
      written = subst (λ (z : List ℕ). AppendsPart g0 g2 z) (sym (text_of_splits so.read f.lines f.rest f.splits))
          (then_part g0 g1 g2 (told None f.lines) (told known (last_of f.rest)) (appended g0 g1 (told None f.lines) f.grows) last);
    }

pub finished_front : (left0 left left2 g0 g1 g2 : Option (List ℕ)) (s : Option SystemView) (held : List ℕ) → SoFar left0 left g0 g1 s held → Consumes left left2 [] → IsAtEnd left2 → g2 ≡ g1 → ((world : Option World) → IsAt s world → LineTakes world held) → WroteBefore left0 left2 g0 g2
finished_front left0 left left2 g0 g1 g2 s held so consumed end same takes =
    let f = so.fed in
    record {
      read = so.read;
      lines = f.lines;
      line = f.rest;
      consumed = consumed_end left0 left left2 so.read so.consumed consumed;
      next = inr (f.splits, end);
      takes = subst (λ (k : Option Command). CommandTakes (after_lines None f.lines) k) (ap command_of f.holds ∙ same_line f.rest) (takes (after_lines None f.lines) f.at);
      written = subst (λ (z : Option (List ℕ)). Appends g0 z (told None f.lines)) (sym same) (appended g0 g1 (told None f.lines) f.grows);
    }

-- Where the source and the sink tell their bytes.
pub whole_text : (left left' got got' : Option (List ℕ)) → WroteAll left left' got got' → IfSome left (λ input. Appends got got' (text input))
whole_text None left' got got' r = tt
whole_text (Some input) None got got' r = absurd r.consumed
whole_text (Some input) (Some rest) got got' r = subst (λ (z : List ℕ). Appends got got' (text z)) (sym (r.consumed ∙ ap (λ z. r.read ++ z) r.at_end ∙ append_none r.read)) r.written

pub read_end : (left left2 : Option (List ℕ)) (n : ℕ) (buf : List ℕ) → n ≡ 0 → Consumes left left2 (take n buf) → Consumes left left2 []
read_end left left2 n buf e h = subst (λ (k : ℕ). Consumes left left2 (take k buf)) e h

-- The block behind a read: what is taken of it is what was read.
pub block_is : (buf items : List ℕ) (len : ℕ) → length buf ≡ len → take len (buf ++ drop (length buf) items) ≡ buf
block_is buf items len e = ap (λ k. take k (buf ++ drop (length buf) items)) (sym e) ∙ take-append_seam buf (drop (length buf) items)

-- How the end of the input ends the call.
pub finished_wrote : {A : Type 0} (r : Result A ReplayFault) (left0 left left2 g0 g1 g2 : Option (List ℕ)) (s : Option SystemView) (held : List ℕ) → SoFar left0 left g0 g1 s held → Consumes left left2 [] → IsAtEnd left2
    → Finished r s held g1 g2 → Wrote r left0 left2 g0 g2
finished_wrote (Ok x) left0 left left2 g0 g1 g2 s held so consumed end f = finished_all left0 left left2 g0 g1 g2 s held so consumed end f
finished_wrote (Err ReadFailed) left0 left left2 g0 g1 g2 s held so consumed end f = absurd f
finished_wrote (Err WriteFailed) left0 left left2 g0 g1 g2 s held so consumed end f = finished_part left0 left left2 g0 g1 g2 s held so consumed f
finished_wrote (Err NoMemory) left0 left left2 g0 g1 g2 s held so consumed end f = inr (finished_front left0 left left2 g0 g1 g2 s held so consumed end f.0 f.1)

-- How a halt ends it.
pub gave_up_wrote : {A : Type 0} (B : Type 0) (r : Result A Halt) (h : Halt) (fault : ReplayFault) (failures : ℕ) (left0 left left2 g0 g3 : Option (List ℕ)) (old new : Point) (bytes : List ℕ)
    → r ≡ Err h → BlockRead left0 left left2 g0 old bytes → FedBy r old bytes new → GaveUp h fault new.waits new.got g3 failures → Wrote {A = B} (Err fault) left0 left2 g0 g3
gave_up_wrote B (Ok x) h fault failures left0 left left2 g0 g3 old new bytes is read fed gave = absurd (cc is)
gave_up_wrote B (Err halt.NoMemory) h fault failures left0 left left2 g0 g3 old new bytes is read fed gave = stopped h fault (cc is) gave
  where
    stopped : (h : Halt) (fault : ReplayFault) → halt.NoMemory ≡ h → GaveUp h fault new.waits new.got g3 failures → Wrote {A = B} (Err fault) left0 left2 g0 g3
    stopped halt.WriteFailed fault e k = absurd (cc e)
    stopped halt.NoMemory ReadFailed e k = absurd k
    stopped halt.NoMemory WriteFailed e k = stopped_unwritten left0 left left2 g0 new.got g3 old bytes new.waits read fed k.0
    stopped halt.NoMemory NoMemory e k = inr (stopped_written left0 left left2 g0 new.got g3 old bytes new.waits read fed k.0)
gave_up_wrote B (Err halt.WriteFailed) h fault failures left0 left left2 g0 g3 old new bytes is read fed gave = broken_by h fault (cc is) gave
  where
    broken_by : (h : Halt) (fault : ReplayFault) → halt.WriteFailed ≡ h → GaveUp h fault new.waits new.got g3 failures → Wrote {A = B} (Err fault) left0 left2 g0 g3
    broken_by halt.NoMemory fault e k = absurd (cc e)
    broken_by halt.WriteFailed ReadFailed e k = absurd k
    broken_by halt.WriteFailed NoMemory e k = absurd k
    broken_by halt.WriteFailed WriteFailed e k = subst (λ (z : Option (List ℕ)). WrotePart left0 left2 g0 z) (sym k.0) (broken_off left0 left left2 g0 new.got old bytes read fed)

-- A halt is no success.
pub fed_all : {A : Type 0} (r : Result A Halt) (x : A) (old new : Point) (bytes : List ℕ) → r ≡ Ok x → FedBy r old bytes new → Fed old bytes new
fed_all (Ok y) x old new bytes is fed = fed
fed_all (Err h) x old new bytes is fed = absurd (cc is)

-- A read that gave bytes is one more.
pub more_read : (n before after turn : ℕ) → n ≢ 0 → after ≡ cond (n == 0) before (before + 1) → before ≡ turn → after ≡ turn + 1
more_read zero before after turn some e f = absurd (some refl)
more_read (suc n) before after turn some e f = let no : (suc n == 0) ≡ false = grind arith in e ∙ ap (λ b. cond b before (before + 1)) no ∙ ap (λ k. k + 1) f
