-- The end of the input: what is held is fed a newline.
use Rattle.std.proofs.Common.{◌≡◌, ◌⊎◌, inl, inr, ℕ, ◌∙◌, sym, true, false, List, [], ◌∷◌, ◌++◌, length, take, Option, Some, None, refl, ap, subst, arith, length-take}
use Rattle.std.specs.Prelude.{◌==◌, Result, Ok, Err}
use Rattle.std.specs.Io.KnownBytes.{Appends}
use Rattle.replay.specs.declared.stream.Halt.{Halt}
use Rattle.replay.specs.declared.stream.Halt.TheVariants as halt
use Rattle.system.specs.World.{World}
use Rattle.replay.specs.Known.{AppendsPart, Grows}
use Rattle.replay.specs.Room.{LineTakes}
use Rattle.replay.specs.Text.{SystemView, IsAt, told}
use Rattle.replay.specs.Streams.{Point, IsPiece, last_of, after_lines, Fed, ForEachStart, StoppedIn, BrokenIn, FedBy, SinkKept}
use Rattle.replay.specs.Outcome.{SoFar}
use Rattle.replay.proofs.Lists.{append_none, take_all}
use Rattle.replay.proofs.Growth.{grows_on, flushed, appended, broken}
use Rattle.replay.proofs.Lasts.{front_of_last, splits_of_last, stop_of_last, part_of_none, piece_front}

-- What is held so far has no newline, and is no more than matters.
pub held_piece : (left0 left g0 g1 : Option (List ℕ)) (s : Option SystemView) (held : List ℕ) → SoFar left0 left g0 g1 s held → IsPiece held
held_piece left0 left g0 g1 s held so = subst (λ (z : List ℕ). IsPiece z) (sym so.fed.holds) (piece_front 1025 so.fed.rest so.fed.splits.partial)

pub held_fits : (left0 left g0 g1 : Option (List ℕ)) (s : Option SystemView) (held : List ℕ) → SoFar left0 left g0 g1 s held → held ≡ take 1025 held
held_fits left0 left g0 g1 s held so =
    so.fed.holds ∙ sym (take_all 1025 (take 1025 so.fed.rest) (omega (arith, length-take 1025 so.fed.rest))) ∙ ap (take 1025) (sym so.fed.holds)

last_some : (held : List ℕ) → (length held == 0) ≡ false → last_of held ≡ held ∷ []
last_some [] h = absurd (grind (arith, h))
last_some (b ∷ bytes) h = refl

-- Nothing is held: no line is left.
pub nothing_held : (world : Option World) (held : List ℕ) (got : Option (List ℕ)) → (length held == 0) ≡ true → Appends got got (told world (last_of held))
nothing_held world [] None h = tt
nothing_held world [] (Some xs) h = sym (append_none xs)
nothing_held world (b ∷ bytes) got h = absurd (grind (arith, h))

pub fed_stopped : {A : Type 0} (r : Result A Halt) (old new : Point) (bytes : List ℕ) → r ≡ Err halt.NoMemory → FedBy r old bytes new → ForEachStart old (λ world tail. StoppedIn world (tail ++ bytes) old.waits old.got new.waits new.got)
fed_stopped (Ok x) old new bytes is fed = absurd (cc is)
fed_stopped (Err halt.NoMemory) old new bytes is fed = fed
fed_stopped (Err halt.WriteFailed) old new bytes is fed = absurd (cc is)

pub fed_broken : {A : Type 0} (r : Result A Halt) (old new : Point) (bytes : List ℕ) → r ≡ Err halt.WriteFailed → FedBy r old bytes new → ForEachStart old (λ world tail. BrokenIn world (tail ++ bytes) old.waits old.got new.got)
fed_broken (Ok x) old new bytes is fed = absurd (cc is)
fed_broken (Err halt.NoMemory) old new bytes is fed = absurd (cc is)
fed_broken (Err halt.WriteFailed) old new bytes is fed = fed

pub sink_kept : {A : Type 0} (r : Result A Halt) (got got' : Option (List ℕ)) → r ≡ Err halt.NoMemory → SinkKept r got got' → got' ≡ got
sink_kept (Ok x) got got' is kept = absurd (cc is)
sink_kept (Err halt.NoMemory) got got' is kept = kept
sink_kept (Err halt.WriteFailed) got got' is kept = absurd (cc is)

-- At the end of the input less than a line is held, and nothing waits.
pub record AtEnd (old : Point) : Type 0 where
  pub some : (length old.held == 0) ≡ false
  pub piece : IsPiece old.held
  pub fits : old.held ≡ take 1025 old.held
  pub none : old.waits ≡ []

-- It was fed, and what waited then was written.
pub ended_all : (old new : Point) (g3 : Option (List ℕ)) → AtEnd old → Fed old (10 ∷ []) new → Appends new.got g3 new.waits → (world : Option World) → IsAt old.system world → Appends old.got g3 (told world (last_of old.held))
ended_all old new g3 e fed written world at =
    let f = fed world at old.held e.piece e.fits in
    let all : f.lines ≡ old.held ∷ [] = splits_of_last old.held f.lines f.rest e.piece f.splits in
    let grown : Grows old.got [] new.got new.waits (told world f.lines) = subst (λ (z : List ℕ). Grows old.got z new.got new.waits (told world f.lines)) e.none f.grows in
    let grows : Grows old.got [] g3 [] (told world f.lines)
    = subst (λ (z : List ℕ). Grows old.got [] g3 [] z) (append_none (told world f.lines)) (grows_on old.got new.got g3 [] new.waits [] (told world f.lines) [] grown (flushed new.got g3 new.waits written)) in
    subst (λ (ls : List (List ℕ)). Appends old.got g3 (told world ls)) (all ∙ sym (last_some old.held e.some)) (appended old.got g3 (told world f.lines) grows)

-- It was fed, and a beginning of what waited then was written.
pub ended_part : (old new : Point) (g3 : Option (List ℕ)) → AtEnd old → Fed old (10 ∷ []) new → AppendsPart new.got g3 new.waits → (world : Option World) → IsAt old.system world → AppendsPart old.got g3 (told world (last_of old.held))
ended_part old new g3 e fed part world at =
    let f = fed world at old.held e.piece e.fits in
    let all : f.lines ≡ old.held ∷ [] = splits_of_last old.held f.lines f.rest e.piece f.splits in
    let grown : Grows old.got [] new.got new.waits (told world f.lines) = subst (λ (z : List ℕ). Grows old.got z new.got new.waits (told world f.lines)) e.none f.grows in
    subst (λ (ls : List (List ℕ)). AppendsPart old.got g3 (told world ls)) (all ∙ sym (last_some old.held e.some)) (broken old.got new.got g3 [] new.waits (told world f.lines) grown part)

-- A write failed while it was fed.
pub ended_broken : (old : Point) (g2 : Option (List ℕ)) → AtEnd old → ForEachStart old (λ world tail. BrokenIn world (tail ++ 10 ∷ []) old.waits old.got g2) → (world : Option World) → IsAt old.system world → AppendsPart old.got g2 (told world (last_of old.held))
ended_broken old g2 e fed world at = by (front_of_last old.held h.lines h.rest e.piece h.front)
  where
    h : BrokenIn world (old.held ++ 10 ∷ []) old.waits old.got g2
    h = fed world at old.held e.piece e.fits

    part : AppendsPart old.got g2 (told world h.lines)
    part = subst (λ (z : List ℕ). AppendsPart old.got g2 (z ++ told world h.lines)) e.none h.part

    by : ((h.lines ≡ []) ⊎ (h.lines ≡ old.held ∷ [])) → AppendsPart old.got g2 (told world (last_of old.held))
    by (inl none) = part_of_none old.got g2 (told world (last_of old.held)) (subst (λ (ls : List (List ℕ)). AppendsPart old.got g2 (told world ls)) none part)
    by (inr one) = subst (λ (ls : List (List ℕ)). AppendsPart old.got g2 (told world ls)) (one ∙ sym (last_some old.held e.some)) part

-- Memory was refused at it.
pub ended_stopped : (old : Point) (w2 : List ℕ) (g2 : Option (List ℕ)) → AtEnd old → ForEachStart old (λ world tail. StoppedIn world (tail ++ 10 ∷ []) old.waits old.got w2 g2) → (world : Option World) → IsAt old.system world → LineTakes world old.held
ended_stopped old w2 g2 e fed world at =
    let h = fed world at old.held e.piece e.fits in
    let s = stop_of_last old.held h.lines h.line h.rest e.piece h.front in
    subst (λ (l : List ℕ). LineTakes world l) s.1 (subst (λ (ls : List (List ℕ)). LineTakes (after_lines world ls) h.line) s.0 h.takes)
