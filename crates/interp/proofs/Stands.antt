-- Calls that stand, as one begins and as one ends.
use Rattle.std.proofs.Common.{◌≡◌, ℕ, suc, ◌+◌, List, [], ◌∷◌, ◌++◌, length, refl, sym, ap, subst, ◌∙◌, arith}
use Rattle.script.specs.Body.{Body}
use Rattle.interp.specs.declared.mark.Mark.TheVariants as mark
use Rattle.interp.specs.declared.frame.Frame.{Frame}
use Rattle.interp.specs.Trace.{Trace, made, followed}
use Rattle.interp.specs.Left.{FrameAt, Stand}

pub stand-length : (bs : List Body) (room : ℕ) (fs : List Frame) (later : Trace) (left : ℕ) (then : Trace) → Stand bs room fs later left then → left + length fs ≡ room
stand-length bs room [] later left then h = omega (arith, h.0)
stand-length bs room (f ∷ fs) later left then h = omega (arith, h.2, stand-length bs h.0 fs (followed h.1 (made (mark.Out f.method) later)) left then h.4)

pub stand-push : (bs : List Body) (room : ℕ) (fs : List Frame) (later : Trace) (left : ℕ) (then u : Trace) (g : Frame) → Stand bs room fs later (suc left) then → FrameAt bs left g u
    → Stand bs room (fs ++ g ∷ []) later left (followed u (made (mark.Out g.method) then))
stand-push bs room [] later left then u g h at = (left, u, sym h.0, at, (refl, ap (λ k. followed u (made (mark.Out g.method) k)) h.1))
stand-push bs room (f ∷ fs) later left then u g h at =
    (h.0, h.1, h.2, h.3, stand-push bs h.0 fs (followed h.1 (made (mark.Out f.method) later)) left then u g h.4 at)

-- the last of them, and those before it
pub record Last (bs : List Body) (room : ℕ) (fs : List Frame) (later : Trace) (left : ℕ) (then : Trace) (g : Frame) : Type 0 where
  pub follows : Trace
  pub own : Trace
  pub stand : Stand bs room fs later (suc left) follows
  pub at : FrameAt bs left g own
  pub is : then ≡ followed own (made (mark.Out g.method) follows)

pub stand-pop : (bs : List Body) (room : ℕ) (fs : List Frame) (later : Trace) (left : ℕ) (then : Trace) (g : Frame) → Stand bs room (fs ++ g ∷ []) later left then → Last bs room fs later left then g
stand-pop bs room [] later left then g h =
    let level : h.0 ≡ left = sym h.4.0 in
    record {
      follows = later;
      own = h.1;
      stand = (ap suc (sym level) ∙ sym h.2, refl);
      at = subst (λ n. FrameAt bs n g h.1) level h.3;
      is = h.4.1;
    }
stand-pop bs room (f ∷ fs) later left then g h =
    let r = stand-pop bs h.0 fs (followed h.1 (made (mark.Out f.method) later)) left then g h.4 in
    record { follows = r.follows; own = r.own; stand = (h.0, h.1, h.2, h.3, r.stand); at = r.at; is = r.is }
