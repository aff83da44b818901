-- Bytes after bytes, and block after block.
use Rattle.std.proofs.Common.{◌≡◌, ℕ, ◌+◌, ◌∙◌, sym, true, false, List, [], ◌∷◌, ◌++◌, length, map, take, get_or, ◌<◌, refl, ap, cond, subst, Option, Some, None, append_assoc, arith}
use Rattle.std.specs.Prelude.{◌==◌}
use Rattle.std.proofs.lemmas.List.{take_more}
use Rattle.std.specs.Io.KnownBytes.{Consumes, IsAtEnd}
use Rattle.system.specs.World.{World}
use Rattle.replay.specs.declared.engine.Reply.{Reply}
use Rattle.replay.specs.declared.grammar.Command.{Command}
use Rattle.replay.specs.Grammar.{command_of}
use Rattle.replay.specs.Text.{SystemView, IsAt, Replied, reply_to, world_after_command, after_line}
use Rattle.replay.specs.Words.{lines}
use Rattle.std.proofs.lemmas.List.{append-nil}
use Rattle.run_picture.specs.declared.part.Part.{Part}
use Rattle.run_picture.specs.declared.shapes.Deed.{Deed}
use Rattle.run_picture.specs.Told.{Told, Shown, Seen, IsTold, drawn_from, grown}
use Rattle.run_picture.specs.Marks.{told_by, deed_of, told_line, told_lines}
use Rattle.run_picture.specs.Reading.{told_from, ReadIn, Read, Noted, Finished, SoFar, Marked}
use Rattle.run_picture.proofs.LinesTold.{told_all}
use Rattle.run_picture.proofs.DrawnMore.{told_one}

pub read_none : (s : Option SystemView) (held : List ℕ) (seen : Seen) → Read s held seen [] s held seen
read_none s held seen = λ world part all at told. record { next = world; at = at; told = all; seen = told; same = λ more. refl }

pub read_on : (s s1 s2 : Option SystemView) (held h1 h2 : List ℕ) (seen k1 k2 : Seen) (xs ys : List ℕ) → Read s held seen xs s1 h1 k1 → Read s1 h1 k1 ys s2 h2 k2 → Read s held seen (xs ++ ys) s2 h2 k2
read_on s s1 s2 held h1 h2 seen k1 k2 xs ys first second = λ world part all at told.
    let f = first world part all at told in
    let k = second f.next part f.told f.at f.seen in
    record {
      next = k.next;
      at = k.at;
      told = k.told;
      seen = k.seen;
      same = λ more. ap (λ z. all ++ told_from world held z) (append_assoc xs ys more) ∙ f.same (ys ++ more) ∙ k.same more;
    }

-- A line that is held was done, and is told of.
pub noted : (old new : Option SystemView) (held line shown : List ℕ) (seen seen' : Seen) (command : Option Command) (deed : Deed) (said : Reply) → line ≡ held → shown ≡ held → command ≡ command_of line → deed ≡ deed_of command → Replied old command said new → seen'.part ≡ seen.part → seen'.lines ≡ seen.lines + 1 → seen'.shown ≡ grown seen.part (seen.lines + 1) (told_by shown deed said) seen.shown → Noted old held seen new seen'
noted old new held line shown seen seen' command deed said e e' is asks replied part_same counted marked = λ world part all at told.
    let same : command ≡ command_of held = is ∙ ap command_of e in
    let says : said ≡ reply_to world (command_of held) = replied.reply world at ∙ ap (reply_to world) same in
    let asked : deed ≡ deed_of (command_of held) = asks ∙ ap deed_of same in
    let tells : told_by shown deed said ≡ told_line world held
    = ap (λ z. told_by z deed said) e' ∙ ap (λ z. told_by held z said) asked ∙ ap (λ z. told_by held (deed_of (command_of held)) z) says in (
      told_one part seen seen' all (told_line world held) part_same counted (marked ∙ ap (λ z. grown seen.part (seen.lines + 1) z seen.shown) tells) told,
      subst (λ (k : Option Command). IsAt new (world_after_command world k)) same (replied.next world at),
    )

-- A newline ends the line.
pub read_line : (s s1 : Option SystemView) (held h1 : List ℕ) (seen k1 : Seen) (b : ℕ) → b ≡ 10 → Noted s held seen s1 k1 → h1 ≡ [] → Read s held seen (b ∷ []) s1 h1 k1
read_line s s1 held h1 seen k1 b newline noted none = λ world part all at told.
    let n = noted world part all at told in
    let ends : ReadIn world part held all (10 ∷ []) s1 [] k1 = record {
      next = after_line world held;
      at = n.1;
      told = all ++ told_line world held ∷ [];
      seen = n.0;
      same = λ more. sym (append_assoc all (told_line world held ∷ []) (told_from (after_line world held) [] more));
    } in
    subst (λ (z : ℕ). ReadIn world part held all (z ∷ []) s1 h1 k1) (sym newline) (subst (λ (z : List ℕ). ReadIn world part held all (10 ∷ []) s1 z k1) (sym none) ends)

-- Any other byte is more of the line.
pub read_piece : (s : Option SystemView) (held h1 : List ℕ) (seen : Seen) (b : ℕ) → (b == 10) ≡ false → h1 ≡ take 1025 (held ++ b ∷ []) → Read s held seen (b ∷ []) s h1 seen
read_piece s held h1 seen b other longer = λ world part all at told.
    let more_of : ReadIn world part held all (b ∷ []) s (take 1025 (held ++ b ∷ [])) seen = record {
      next = world;
      at = at;
      told = all;
      seen = told;
      same = λ more. ap (λ is. all ++ cond is (told_line world held ∷ told_from (after_line world held) [] more) (told_from world (take 1025 (held ++ b ∷ [])) more)) other;
    } in
    subst (λ (z : List ℕ). ReadIn world part held all (b ∷ []) s z seen) (sym longer) more_of

-- One byte more of a block.
pub read_more : (s s1 s2 : Option SystemView) (held h1 h2 : List ℕ) (seen k1 k2 : Seen) (bytes : List ℕ) (i : ℕ) → i < length bytes → Read s held seen (take i bytes) s1 h1 k1 → Read s1 h1 k1 (get_or bytes i 0 ∷ []) s2 h2 k2 → Read s held seen (take (i + 1) bytes) s2 h2 k2
read_more s s1 s2 held h1 h2 seen k1 k2 bytes i below first second =
    subst (λ (z : List ℕ). Read s held seen z s2 h2 k2) (sym (take_more bytes i 0 below)) (read_on s s1 s2 held h1 h2 seen k1 k2 (take i bytes) (get_or bytes i 0 ∷ []) first second)

-- A last line without a newline was told of, or there is none.
pub finished_line : (s s1 : Option SystemView) (held : List ℕ) (seen k1 : Seen) → (length held == 0) ≡ false → Noted s held seen s1 k1 → Finished s held seen k1
finished_line s s1 [] seen k1 some noted = absurd (cc some)
finished_line s s1 (b ∷ held) seen k1 some noted = λ world part all at told. (noted world part all at told).0

pub finished_none : (s : Option SystemView) (held : List ℕ) (seen : Seen) → (length held == 0) ≡ true → Finished s held seen seen
finished_none s [] seen none = λ world part all at told. subst (λ (z : List Told). IsTold part seen z) (sym (append-nil all)) told
finished_none s (b ∷ held) seen none =
    let no : (length (b ∷ held) == 0) ≡ false = grind arith in
    let wrong : true ≡ false = sym none ∙ no in
    absurd (cc wrong)

consumed_on : (a b c : Option (List ℕ)) (x y : List ℕ) → Consumes a b x → Consumes b c y → Consumes a c (x ++ y)
consumed_on None b c x y h k = tt
consumed_on (Some a) None c x y h k = absurd h
consumed_on (Some a) (Some b) None x y h k = absurd k
consumed_on (Some a) (Some b) (Some c) x y h k = h ∙ ap (λ z. x ++ z) k ∙ sym (append_assoc x y c)

consumed_none : (left : Option (List ℕ)) → Consumes left left []
consumed_none None = tt
consumed_none (Some xs) = refl

pub so_far_new : (left : Option (List ℕ)) (part : Part) (s : Option SystemView) (held : List ℕ) (seen : Seen) → s ≡ None → held ≡ [] → seen.part ≡ part → seen.lines ≡ 0 → seen.shown ≡ [] → SoFar left left part s held seen
so_far_new left part s held seen e f same lines shown = record {
  read = [];
  consumed = consumed_none left;
  reads = record {
    next = None;
    at = subst (λ (z : Option SystemView). IsAt z None) (sym e) tt;
    told = [];
    seen = record { same = same; lines = lines; shown = shown };
    same = λ more. ap (λ z. told_from None z more) (sym f);
  };
}

-- One block more.
pub so_far_more : (left0 left left2 : Option (List ℕ)) (part : Part) (s s2 : Option SystemView) (held held2 : List ℕ) (seen k2 : Seen) (bytes : List ℕ) → SoFar left0 left part s held seen → Consumes left left2 bytes → Read s held seen bytes s2 held2 k2 → SoFar left0 left2 part s2 held2 k2
so_far_more left0 left left2 part s s2 held held2 seen k2 bytes so consumed more =
    let f = so.reads in
    let k = more f.next part f.told f.at f.seen in
    record {
      read = so.read ++ bytes;
      consumed = consumed_on left0 left left2 so.read bytes so.consumed consumed;
      reads = record {
        next = k.next;
        at = k.at;
        told = k.told;
        seen = k.seen;
        same = λ rest. ap (λ z. told_from None [] z) (append_assoc so.read bytes rest) ∙ f.same (bytes ++ rest) ∙ k.same rest;
      };
    }

-- The end was read.
pub marked_all : (left0 left left2 : Option (List ℕ)) (part : Part) (s : Option SystemView) (held : List ℕ) (seen k2 : Seen) → SoFar left0 left part s held seen → Consumes left left2 [] → IsAtEnd left2 → Finished s held seen k2 → Marked left0 left2 part k2.shown
marked_all left0 left left2 part s held seen k2 so consumed end finished =
    let f = so.reads in
    let told = finished f.next part f.told f.at f.seen in
    let all : f.told ++ told_from f.next held [] ≡ told_lines None (lines so.read)
    = sym (f.same []) ∙ ap (told_from None []) (append-nil so.read) ∙ told_all so.read in
    record {
      read = so.read;
      consumed = subst (λ (z : List ℕ). Consumes left0 left2 z) (append-nil so.read) (consumed_on left0 left left2 so.read [] so.consumed consumed);
      at_end = end;
      each = told.shown ∙ ap (drawn_from part 1) all;
    }
