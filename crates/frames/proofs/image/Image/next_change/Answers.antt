use Rattle.std.proofs.Common.{◌≡◌, ◌∙◌, ◌≤◌, ◌+◌, sym, ap, refl, rules, arith, length, drop, take, true, false, [], ◌∷◌, None, subst}
use Rattle.frames.specs.declared.CodeId.{CodeId}
use Rattle.frames.specs.Stack.{act}
use Rattle.frames.specs.Nets.{codes_in, first_of, net_in, IsRising, IsWithin}
use Rattle.frames.proofs.Moves.{zero_not}
use Rattle.frames.proofs.Settling.{next_of_left, is_next_of, drop_all, left_is, rising_drop, within_rest, first_by, first_moved, first_others, past, found, among_taken, fresh_at, unsettled_fewer}
use Rattle.frames.proofs.image.Image.next_change.Goals as goal

pub returns-in_default-clause-code : goal.returns-in_default-clause-code
returns-in_default-clause-code c = λ publishing.
    let all : length c.self.inside.nets.entries ≤ c.self.inside.given = past c.self.inside.nets.entries c.self.inside.given c.in_default.ensures in
    rw (← c.self.view_is) (sym (next_of_left c.self.inside.frames.items c.self.inside.nets.entries c.self.inside.given c.self.invariant.5 c.self.invariant.6 ∙ ap first_of (drop_all c.self.inside.given c.self.inside.nets.entries all)))

pub returns-in_default-clause-next : goal.returns-in_default-clause-next
returns-in_default-clause-next c = λ publishing.
    let all : length c.self.inside.nets.entries ≤ c.self.inside.given = past c.self.inside.nets.entries c.self.inside.given c.in_default.ensures in
    let none = drop_all c.self.inside.given c.self.inside.nets.entries all in
    let changed = codes_in (take c.self.inside.given c.self.inside.nets.entries) in
    let within = subst (λ xs. (code : CodeId) → IsWithin (net_in xs code) (act code c.self.inside.frames.items)) none c.self.invariant.6 in
    rw (← c.self.view_is, none) (is_next_of c.self.inside.frames.items [] changed c.self.inside.publishing tt within)

pub returns-clause-by : goal.returns-clause-by
returns-clause-by c =
    let frames = c.self.inside.frames.items in
    let nets = c.self.inside.nets.entries in
    let n = c.self.inside.given in
    let x = c.in-Some.change in
    let look = found nets n x c.in-Some.ensures in
    let left : drop n nets ≡ x ∷ drop (n + 1) nets = left_is n nets x look.0 look.1 in
    let rising : IsRising None (x ∷ drop (n + 1) nets) = subst (IsRising None) left (rising_drop n nets c.self.invariant.5) in
    let within = subst (λ xs. (code : CodeId) → IsWithin (net_in xs code) (act code frames)) left c.self.invariant.6 in
    zero_not x.by rising.1

pub returns-clause-code : goal.returns-clause-code
returns-clause-code c = λ publishing.
    let frames = c.self.inside.frames.items in
    let nets = c.self.inside.nets.entries in
    let n = c.self.inside.given in
    let x = c.in-Some.change in
    let look = found nets n x c.in-Some.ensures in
    let left : drop n nets ≡ x ∷ drop (n + 1) nets = left_is n nets x look.0 look.1 in
    let rising : IsRising None (x ∷ drop (n + 1) nets) = subst (IsRising None) left (rising_drop n nets c.self.invariant.5) in
    let within = subst (λ xs. (code : CodeId) → IsWithin (net_in xs code) (act code frames)) left c.self.invariant.6 in
    rw (← c.self.view_is) (sym (next_of_left frames nets n c.self.invariant.5 c.self.invariant.6 ∙ ap first_of left))

pub returns-clause-next : goal.returns-clause-next
returns-clause-next c = λ publishing.
    let frames = c.self.inside.frames.items in
    let nets = c.self.inside.nets.entries in
    let n = c.self.inside.given in
    let x = c.in-Some.change in
    let look = found nets n x c.in-Some.ensures in
    let left : drop n nets ≡ x ∷ drop (n + 1) nets = left_is n nets x look.0 look.1 in
    let rising : IsRising None (x ∷ drop (n + 1) nets) = subst (IsRising None) left (rising_drop n nets c.self.invariant.5) in
    let within = subst (λ xs. (code : CodeId) → IsWithin (net_in xs code) (act code frames)) left c.self.invariant.6 in
    rw (← c.self.view_is, left) (is_next_of frames (x ∷ drop (n + 1) nets) (codes_in (take n nets)) c.self.inside.publishing rising within)

pub returns-clause-fresh : goal.returns-clause-fresh
returns-clause-fresh c =
    let frames = c.self.inside.frames.items in
    let nets = c.self.inside.nets.entries in
    let n = c.self.inside.given in
    let x = c.in-Some.change in
    let look = found nets n x c.in-Some.ensures in
    let left : drop n nets ≡ x ∷ drop (n + 1) nets = left_is n nets x look.0 look.1 in
    let rising : IsRising None (x ∷ drop (n + 1) nets) = subst (IsRising None) left (rising_drop n nets c.self.invariant.5) in
    let within = subst (λ xs. (code : CodeId) → IsWithin (net_in xs code) (act code frames)) left c.self.invariant.6 in
    let more = look.0 in
    rw (← c.self.view_is, look.1) (fresh_at n nets None _ c.self.invariant.5 more).0

pub returns-clause-fewer : goal.returns-clause-fewer
returns-clause-fewer c =
    let frames = c.self.inside.frames.items in
    let nets = c.self.inside.nets.entries in
    let n = c.self.inside.given in
    let x = c.in-Some.change in
    let look = found nets n x c.in-Some.ensures in
    let left : drop n nets ≡ x ∷ drop (n + 1) nets = left_is n nets x look.0 look.1 in
    let rising : IsRising None (x ∷ drop (n + 1) nets) = subst (IsRising None) left (rising_drop n nets c.self.invariant.5) in
    let within = subst (λ xs. (code : CodeId) → IsWithin (net_in xs code) (act code frames)) left c.self.invariant.6 in
    rw (← c.self.view_is) (unsettled_fewer frames nets n x (codes_in (take n nets)) (codes_in (take (n + 1) nets)) c.self.inside.publishing c.self.invariant.5 c.self.invariant.6 left)

pub returns-clause-counts : goal.returns-clause-counts
returns-clause-counts c =
    let frames = c.self.inside.frames.items in
    let nets = c.self.inside.nets.entries in
    let n = c.self.inside.given in
    let x = c.in-Some.change in
    let look = found nets n x c.in-Some.ensures in
    let left : drop n nets ≡ x ∷ drop (n + 1) nets = left_is n nets x look.0 look.1 in
    let rising : IsRising None (x ∷ drop (n + 1) nets) = subst (IsRising None) left (rising_drop n nets c.self.invariant.5) in
    let within = subst (λ xs. (code : CodeId) → IsWithin (net_in xs code) (act code frames)) left c.self.invariant.6 in
    let more = look.0 in
    rw (← c.self.view_is, left) (record {
      frames_stay = refl;
      publishing_stays = refl;
      by = first_by frames x (drop (n + 1) nets) (within x.code);
      moved = first_moved frames x (drop (n + 1) nets) rising;
      others = first_others frames x (drop (n + 1) nets);
      grown = λ code. rw look.1 (among_taken n nets _ code more);
    })

pub invariant_of-self : goal.invariant_of-self
invariant_of-self c =
    let frames = c.self.inside.frames.items in
    let nets = c.self.inside.nets.entries in
    let n = c.self.inside.given in
    let x = c.in-Some.change in
    let look = found nets n x c.in-Some.ensures in
    let left : drop n nets ≡ x ∷ drop (n + 1) nets = left_is n nets x look.0 look.1 in
    let rising : IsRising None (x ∷ drop (n + 1) nets) = subst (IsRising None) left (rising_drop n nets c.self.invariant.5) in
    let within = subst (λ xs. (code : CodeId) → IsWithin (net_in xs code) (act code frames)) left c.self.invariant.6 in
    let more = look.0 in
    let open_ : c.self.inside.publishing ≡ true = search rules in (
      c.self.invariant.0,
      c.self.invariant.1,
      c.self.invariant.2,
      omega arith,
      λ closed. (let no : true ≡ false = sym open_ ∙ closed in cc),
      c.self.invariant.5,
      within_rest frames x (drop (n + 1) nets) rising within,
      λ closed. (let no : true ≡ false = sym open_ ∙ closed in cc),
      c.self.invariant.8,
    )
