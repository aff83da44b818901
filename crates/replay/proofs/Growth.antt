-- What a sink got and what waits for it, step by step.
use Rattle.std.proofs.Common.{◌≡◌, ℕ, ◌+◌, ◌∙◌, sym, List, [], ◌++◌, length, take, Option, Some, None, refl, ap, append_assoc}
use Rattle.std.proofs.Math.Seq.{take-append-add}
use Rattle.std.specs.Io.KnownBytes.{Appends}
use Rattle.replay.specs.Known.{AppendsPart, Grows}
use Rattle.replay.proofs.Lists.{append_none, take_front_part}

pub grows_none : (got : Option (List ℕ)) (waits : List ℕ) → Grows got waits got waits []
grows_none None waits = tt
grows_none (Some xs) waits = record { more = []; got = sym (append_none xs); all = sym (append_none waits) }

pub grows_on : (a b c : Option (List ℕ)) (w1 w2 w3 x y : List ℕ) → Grows a w1 b w2 x → Grows b w2 c w3 y → Grows a w1 c w3 (x ++ y)
grows_on None b c w1 w2 w3 x y h k = tt
grows_on (Some a) None c w1 w2 w3 x y h k = absurd h
grows_on (Some a) (Some b) None w1 w2 w3 x y h k = absurd k
grows_on (Some a) (Some b) (Some c) w1 w2 w3 x y h k = record {
  more = h.more ++ k.more;
  got = k.got ∙ ap (λ z. z ++ k.more) h.got ∙ append_assoc a h.more k.more;
  all = append_assoc h.more k.more w3 ∙ ap (λ z. h.more ++ z) k.all ∙ sym (append_assoc h.more w2 y) ∙ ap (λ z. z ++ y) h.all ∙ append_assoc w1 x y;
}

-- Bytes join what waits.
pub grows_waits : (b : Option (List ℕ)) (w1 w2 x : List ℕ) → w2 ≡ w1 ++ x → Grows b w1 b w2 x
grows_waits None w1 w2 x e = tt
grows_waits (Some b) w1 w2 x e = record { more = []; got = sym (append_none b); all = e }

-- All that waits is written.
pub flushed : (g1 g2 : Option (List ℕ)) (waits : List ℕ) → Appends g1 g2 waits → Grows g1 waits g2 [] []
flushed None g2 waits h = tt
flushed (Some a) None waits h = absurd h
flushed (Some a) (Some b) waits h = record { more = waits; got = h; all = refl }

-- Where nothing waits before and after, the sink got it all.
pub appended : (a b : Option (List ℕ)) (x : List ℕ) → Grows a [] b [] x → Appends a b x
appended None b x h = tt
appended (Some a) None x h = absurd h
appended (Some a) (Some b) x h = h.got ∙ ap (λ z. a ++ z) (sym (append_none h.more) ∙ h.all)

-- A beginning of what waits is written.
pub broken : (a b c : Option (List ℕ)) (w1 w2 x : List ℕ) → Grows a w1 b w2 x → AppendsPart b c w2 → AppendsPart a c (w1 ++ x)
broken None b c w1 w2 x h k = tt
broken (Some a) None c w1 w2 x h k = absurd h
broken (Some a) (Some b) None w1 w2 x h k = absurd k
broken (Some a) (Some b) (Some c) w1 w2 x h k = (
  length h.more + k.0,
  k.1 ∙ ap (λ z. z ++ take k.0 w2) h.got ∙ append_assoc a h.more (take k.0 w2)
      ∙ ap (λ z. a ++ z) (sym (take-append-add h.more w2 k.0) ∙ ap (take (length h.more + k.0)) h.all),
)

-- A beginning of a beginning.
pub part_more : (a b : Option (List ℕ)) (x y : List ℕ) → AppendsPart a b x → AppendsPart a b (x ++ y)
part_more None b x y h = tt
part_more (Some a) None x y h = absurd h
part_more (Some a) (Some b) x y h = let f = take_front_part h.0 x y in (f.0, h.1 ∙ ap (λ z. a ++ z) (sym f.1))

-- A beginning of what comes after the whole of what came before.
pub then_part : (a b c : Option (List ℕ)) (x y : List ℕ) → Appends a b x → AppendsPart b c y → AppendsPart a c (x ++ y)
then_part None b c x y h k = tt
then_part (Some a) None c x y h k = absurd h
then_part (Some a) (Some b) None x y h k = absurd k
then_part (Some a) (Some b) (Some c) x y h k =
    (length x + k.0, k.1 ∙ ap (λ z. z ++ take k.0 y) h ∙ append_assoc a x (take k.0 y) ∙ ap (λ z. a ++ z) (sym (take-append-add x y k.0)))

pub appends_on : (a b c : Option (List ℕ)) (x y : List ℕ) → Appends a b x → Appends b c y → Appends a c (x ++ y)
appends_on None b c x y h k = tt
appends_on (Some a) None c x y h k = absurd h
appends_on (Some a) (Some b) None x y h k = absurd k
appends_on (Some a) (Some b) (Some c) x y h k = k ∙ ap (λ z. z ++ y) h ∙ append_assoc a x y
