-- What each step of a body keeps.
use Rattle.std.proofs.Common.{◌≡◌, ◌≢◌, ℕ, ℤ, pos, negsuc, ◌+ℤ◌, ◌<ℤ◌, ◌≤ℤ◌, ◌+◌, ◌<◌, ◌≤◌, ◌∙◌, sym, Bool, true, false, not, eqb, ◌&&◌, ◌||◌, List, [], ◌∷◌, ◌++◌, length, slice_index_or, slice_set, vec_capacity, Option, Some, None, IfSome, refl, ap, subst, cond, arith, inl, inr, ⊎_elim, length-append}
use Rattle.std.proofs.lemmas.Bool.Decides.{nat_tests}
use Rattle.std.proofs.lemmas.Bool.{false≢true}
use Rattle.std.proofs.lemmas.Int.{ints}
use Rattle.std.proofs.lemmas.List.Sums.{sum_by-append, count_by-le-length}
use mathlib.Core.Logic.{dite}
use native.Mathlib.Decide.{ℕ_discrete}
use Rattle.frames.specs.declared.CodeId.{CodeId}
use Rattle.frames.specs.declared.Frame.{Frame}
use Rattle.frames.specs.declared.Change.{Change}
use Rattle.frames.specs.declared.board_rule.SeatView.{SeatView}
use Rattle.frames.specs.Stack.{same_code, is_of, act, times}
use Rattle.frames.specs.ImageView.{ImageView, HasFrames, Counts, IsCounted, Differs, IsSettled, is_uncounted}
use Rattle.frames.specs.declared.board_rule.EntryState.TheVariants.{InUse}
use Rattle.frames.specs.BoardWords.{pack}
use Rattle.frames.specs.BoardRule.{SeatState, IsStanding, IsHeldBy}
use Rattle.frames.specs.BoardViews.{how_often, has_code, with_code, entered, moment_read, stored_as, count_changed, IsHeld, IsStandingWord}
use Rattle.frames.proofs.Bags.{same_code-equal, same_code-refl, act-cons, times-cons}
use Rattle.thread_state.specs.declared.poll_rule.Watching.{Watching}
use Rattle.board.specs.Boards.{BoardId, SeatSeen}
use Rattle.atomic_table.specs.Seated.{TableId}
use Rattle.poll.specs.Rows.{PollerSeen}
use Rattle.bodies.specs.declared.body.Parts.{Parts}
use Rattle.bodies.specs.Bodies.{BodyView, image_of, IsPaired, IsFit, IsKept, IsSpare, IsTried, AreMade, AreCounted, IsPublished, AreStanding, all_changed, changed, code_if, frame}

-- what the parts of a body show, and what they keep
abbrev pub shown : Parts → BodyView
shown p = record { name = p.name; image = image_of p.images.items; seat = p.seat.seen; poller = p.poller.seen }

abbrev pub IsHeldBox : BoardId → TableId → Parts → Type 0
IsHeldBox board row p = IsPaired board row p.seat p.poller × IsKept board.slots p.images.items p.seat.seen × (1 ≤ vec_capacity p.images)

act-append : (c : CodeId) (xs : List Frame) (f : Frame) → act c (xs ++ f ∷ []) ≡ act c xs + cond (is_of c f) 1 0
act-append c xs f = sum_by-append (λ g. cond {A = ℕ} (is_of c g) 1 0) xs (f ∷ []) ∙ ap (λ n. act c xs + n) (act-cons c f [] ∙ omega arith)

pub act_at_most : (c : CodeId) (xs : List Frame) → act c xs ≤ length xs
act_at_most c xs = count_by-le-length (is_of c) xs

-- the image at the head of a list of one
pub only_image : (images : List ImageView) (image : ImageView) → length images ≡ 1 → image ≡ slice_index_or images 0 image → image_of images ≡ image
only_image [] image one is = absurd (omega arith)
only_image (x ∷ xs) image one is = sym is

-- the image that an index of a body's list gives is that of the body's view
pub index_is : (p q : Parts) (body : BodyView) (image : ImageView) → length p.images.items ≡ 1 → shown p ≡ body → q ≡ p → image ≡ slice_index_or q.images.items 0 image → image ≡ body.image
index_is p q body image one view is at_ =
    let from : image ≡ slice_index_or p.images.items 0 image = subst (λ (r : Parts). image ≡ slice_index_or r.images.items 0 image) is at_ in
    sym (only_image p.images.items image one from) ∙ ap (λ (b : BodyView). b.image) view

-- a list of one with another image
pub only_set : (images : List ImageView) (image : ImageView) → length images ≡ 1 → (length (slice_set images 0 image) ≡ 1) × (image_of (slice_set images 0 image) ≡ image)
only_set [] image one = absurd (omega arith)
only_set (x ∷ xs) image one = (one, refl)

-- what is kept of a list of one image, said of that image
pub kept_image : (slots : ℕ) (images : List ImageView) (image : ImageView) (seat : SeatView) → IsKept slots images seat → image ≡ slice_index_or images 0 image → IsFit slots image seat × (image.publishing ≡ false)
kept_image slots images image seat kept is = subst (λ i. IsFit slots i seat × (i.publishing ≡ false)) (only_image images image kept.0 is) (kept.1, kept.2)

-- what is kept of an image, said of the list of one that has it now
pub kept_set : (slots : ℕ) (images : List ImageView) (image : ImageView) (seat : SeatView) → length images ≡ 1 → IsFit slots image seat × (image.publishing ≡ false) → IsKept slots (slice_set images 0 image) seat
kept_set slots images image seat one kept = let is = only_set images image one in (is.0, subst (λ i. IsFit slots i seat) (sym is.1) kept.0, ap (λ (i : ImageView). i.publishing) is.1 ∙ kept.1)

-- a step of the seat keeps the pair
pub stays_paired : (board : BoardId) (row : TableId) (seat seat' : SeatSeen) (poller : PollerSeen) → IsPaired board row seat poller → seat'.board ≡ seat.board → seat'.seen.place ≡ seat.seen.place → IsPaired board row seat' poller
stays_paired board row seat seat' poller paired same place = (same ∙ paired.0, paired.1, paired.2 ∙ sym place)

-- an empty stack, nothing counted
pub new_fits : (slots : ℕ) (image : ImageView) (seat : SeatView) → image.frames ≡ [] → ((c : CodeId) → times c image.counted ≡ 0) → IsSpare seat → IsFit slots image seat
new_fits slots image seat none bag spare = record {
  few = omega (arith, ap length none);
  counted_is = λ c. bag c ∙ sym (spare.1 c);
  more_is_fresh = λ c h. absurd (let a : act c image.frames ≡ 0 = ap (act c) none in omega arith);
  frame_slots = λ c h. absurd (let a : act c image.frames ≡ 0 = ap (act c) none in omega arith);
  counted_slots = λ c h. absurd (let a = bag c in omega arith);
}

-- a frame is pushed: of a fresh code of the board, or interpreted
pub pushed_fits : (slots : ℕ) (image image' : ImageView) (seat seat' : SeatView) (f : Frame) → IsFit slots image seat → HasFrames image image' (image.frames ++ f ∷ []) → length image.frames < 256
    → ((c : CodeId) → how_often seat'.counted c ≡ how_often seat.counted c) → ((c : CodeId) → has_code seat.fresh c ≡ true → has_code seat'.fresh c ≡ true)
    → ((c : CodeId) → is_of c f ≡ true → (has_code seat'.fresh c ≡ true) × (c.slot < slots))
    → IsFit slots image' seat'
pushed_fits slots image image' seat seat' f fit has room counted fresh new = record {
  few = omega (arith, ap length has.frames_are, length-append image.frames (f ∷ []));
  counted_is = λ c. has.counted_stay c ∙ (fit.counted_is c ∙ sym (counted c));
  more_is_fresh = λ c. more c (is_of c f) refl;
  frame_slots = λ c. slot c (is_of c f) refl;
  counted_slots = λ c h. fit.counted_slots c (subst (λ n. 0 < n) (has.counted_stay c) h);
}
  where
    act_is : (c : CodeId) (b : Bool) → is_of c f ≡ b → act c image'.frames ≡ act c image.frames + cond b 1 0
    act_is c b e = ap (act c) has.frames_are ∙ (act-append c image.frames f ∙ ap (λ x. act c image.frames + cond {A = ℕ} x 1 0) e)

    more : (c : CodeId) (b : Bool) → is_of c f ≡ b → times c image'.counted < act c image'.frames → has_code seat'.fresh c ≡ true
    more c true e h = (new c e).0
    more c false e h = fresh c (fit.more_is_fresh c (let a : act c image'.frames ≡ act c image.frames + 0 = act_is c false e in let b = has.counted_stay c in omega arith))

    slot : (c : CodeId) (b : Bool) → is_of c f ≡ b → 0 < act c image'.frames → c.slot < slots
    slot c true e h = (new c e).1
    slot c false e h = fit.frame_slots c (let a : act c image'.frames ≡ act c image.frames + 0 = act_is c false e in omega arith)

-- a frame is popped
pub popped_fits : (slots : ℕ) (image image' : ImageView) (seat : SeatView) (f : Frame) → IsFit slots image seat → image.frames ≡ image'.frames ++ f ∷ [] → HasFrames image image' image'.frames → IsFit slots image' seat
popped_fits slots image image' seat f fit is has =
    let fewer : (c : CodeId) → act c image'.frames ≤ act c image.frames = λ c. let a : act c image.frames ≡ act c image'.frames + cond (is_of c f) 1 0 = ap (act c) is ∙ act-append c image'.frames f in omega arith in record {
      few = let a = fit.few in omega (arith, ap length is, length-append image'.frames (f ∷ []));
      counted_is = λ c. has.counted_stay c ∙ fit.counted_is c;
      more_is_fresh = λ c h. fit.more_is_fresh c (let a = fewer c in let b = has.counted_stay c in omega arith);
      frame_slots = λ c h. fit.frame_slots c (let a = fewer c in omega arith);
      counted_slots = λ c h. fit.counted_slots c (subst (λ n. 0 < n) (has.counted_stay c) h);
    }

-- every frame is counted: nothing need be fresh
pub counted_fits : (slots : ℕ) (image image' : ImageView) (seat seat' : SeatView) → IsFit slots image seat → image'.frames ≡ image.frames → IsCounted image → IsCounted image' → seat'.counted ≡ seat.counted → IsFit slots image' seat'
counted_fits slots image image' seat seat' fit frames was all counted =
    let bag : (c : CodeId) → times c image'.counted ≡ times c image.counted = λ c. sym (all c) ∙ (ap (act c) frames ∙ was c) in record {
      few = subst (λ fs. length fs ≤ 256) (sym frames) fit.few;
      counted_is = λ c. bag c ∙ (fit.counted_is c ∙ ap (λ xs. how_often xs c) (sym counted));
      more_is_fresh = λ c h. absurd (let a = all c in omega arith);
      frame_slots = λ c h. fit.frame_slots c (subst (λ fs. 0 < act c fs) frames h);
      counted_slots = λ c h. fit.counted_slots c (subst (λ n. 0 < n) (bag c) h);
    }

-- an interpreted frame is pushed
pub interpreted_fits : (slots : ℕ) (image image' : ImageView) (seat seat' : SeatView) (m : ℕ) → IsFit slots image seat → HasFrames image image' (image.frames ++ frame m None ∷ []) → length image.frames < 256
    → seat'.counted ≡ seat.counted → ((c : CodeId) → has_code seat.fresh c ≡ true → has_code seat'.fresh c ≡ true) → IsFit slots image' seat'
interpreted_fits slots image image' seat seat' m fit has room counted fresh =
    pushed_fits slots image image' seat seat' (frame m None) fit has room (λ c. ap (λ xs. how_often xs c) counted) fresh (λ c e. absurd (false≢true e))

-- a frame of a fresh code of the board is pushed
pub compiled_fits : (slots : ℕ) (image image' : ImageView) (seat seat' : SeatView) (m : ℕ) (code : CodeId) → IsFit slots image seat → HasFrames image image' (image.frames ++ frame m (Some code) ∷ []) → length image.frames < 256
    → seat'.counted ≡ seat.counted → ((c : CodeId) → has_code seat.fresh c ≡ true → has_code seat'.fresh c ≡ true) → has_code seat'.fresh code ≡ true → code.slot < slots → IsFit slots image' seat'
compiled_fits slots image image' seat seat' m code fit has room counted fresh here low =
    pushed_fits slots image image' seat seat' (frame m (Some code)) fit has room (λ c. ap (λ xs. how_often xs c) counted) fresh
    (λ c e. let is : code ≡ c = same_code-equal code c e in (subst (λ d. has_code seat'.fresh d ≡ true) is here, subst (λ (d : CodeId). d.slot < slots) is low))

-- a code is fresh after a load where it was, or where the load found it in use
with_or : (b : Bool) (c d : CodeId) (xs : List CodeId) → has_code (with_code b c xs) d ≡ (b && same_code d c) || has_code xs d
with_or true c d xs = refl
with_or false c d xs = refl

entered_keeps : (t : SeatView) (c : CodeId) (found : ℕ) (d : CodeId) → has_code t.fresh d ≡ true → has_code (entered t c found).fresh d ≡ true
entered_keeps t c found d h = with_or (eqb found (pack c.serial InUse)) c d t.fresh ∙ or_true (eqb found (pack c.serial InUse) && same_code d c) (has_code t.fresh d) h
  where
    or_true : (a b : Bool) → b ≡ true → a || b ≡ true
    or_true true b e = refl
    or_true false b e = e

entered_fresh : (t : SeatView) (c : CodeId) (found : ℕ) → eqb found (pack c.serial InUse) ≡ true → has_code (entered t c found).fresh c ≡ true
entered_fresh t c found e = with_or (eqb found (pack c.serial InUse)) c c t.fresh ∙ ap (λ b. b || has_code t.fresh c) (and_true (eqb found (pack c.serial InUse)) (same_code c c) e (same_code-refl c))
  where
    and_true : (a b : Bool) → a ≡ true → b ≡ true → a && b ≡ true
    and_true true b x y = y
    and_true false b x y = absurd (false≢true x)

-- a frame is pushed of the code that a call entered
called_fits : (slots : ℕ) (image image' : ImageView) (seat seat' : SeatView) (m : ℕ) (hint code : Option CodeId) → IsFit slots image seat → IsTried seat seat' hint code → IfSome hint (λ c. c.slot < slots)
    → HasFrames image image' (image.frames ++ frame m code ∷ []) → length image.frames < 256 → IsFit slots image' seat'
called_fits slots image image' seat seat' m None code fit tried low has room =
    interpreted_fits slots image image' seat seat' m fit (subst (λ (o : Option CodeId). HasFrames image image' (image.frames ++ frame m o ∷ [])) tried.0 has) room
    (ap (λ (t : SeatView). t.counted) tried.1) (λ c h. subst (λ (t : SeatView). has_code t.fresh c ≡ true) (sym tried.1) h)
called_fits slots image image' seat seat' m (Some c) code fit tried low has room =
    by (eqb tried.0 (pack c.serial InUse)) refl (subst (λ (o : Option CodeId). HasFrames image image' (image.frames ++ frame m o ∷ [])) tried.2 has)
  where
    counted : seat'.counted ≡ seat.counted
    counted = ap (λ (t : SeatView). t.counted) tried.1

    fresh : (d : CodeId) → has_code seat.fresh d ≡ true → has_code seat'.fresh d ≡ true
    fresh d h = subst (λ (t : SeatView). has_code t.fresh d ≡ true) (sym tried.1) (entered_keeps seat c tried.0 d h)

    by : (b : Bool) → eqb tried.0 (pack c.serial InUse) ≡ b → HasFrames image image' (image.frames ++ frame m (code_if c b) ∷ []) → IsFit slots image' seat'
    by true e h = compiled_fits slots image image' seat seat' m c fit h room counted fresh (subst (λ (t : SeatView). has_code t.fresh c ≡ true) (sym tried.1) (entered_fresh seat c tried.0 e)) low
    by false e h = interpreted_fits slots image image' seat seat' m fit h room counted fresh

-- a call keeps what a body keeps
pub called_keeps : (slots : ℕ) (image image' : ImageView) (seat seat' : SeatView) (m : ℕ) (hint code : Option CodeId) → IsFit slots image seat × (image.publishing ≡ false) → IsTried seat seat' hint code → IfSome hint (λ c. c.slot < slots)
    → HasFrames image image' (image.frames ++ frame m code ∷ []) → length image.frames < 256 → IsFit slots image' seat' × (image'.publishing ≡ false)
called_keeps slots image image' seat seat' m hint code kept tried low has room = (called_fits slots image image' seat seat' m hint code kept.0 tried low has room, has.publishing_stays ∙ kept.1)

-- a load of a code's entry tells which code a call enters
pub entered_tried : (old new : SeatView) (c : CodeId) (result : Bool) → (found : ℕ) × (new ≡ entered old c found) × (result ≡ eqb found (pack c.serial InUse)) × (IsHeld old c → IsStandingWord c found) → (has_code old.gone c ≡ true → result ≡ false)
    → IsTried old new (Some c) (code_if c result)
entered_tried old new c result step gone = (step.0, step.1, ap (code_if c) step.2, (step.3, λ h. sym step.2 ∙ gone h))

-- with an empty stack, every frame counted, the seat counts nothing
pub none_counted : (slots : ℕ) (image : ImageView) (seat : SeatView) → IsFit slots image seat → image.frames ≡ [] → IsCounted image → (c : CodeId) → how_often seat.counted c ≡ 0
none_counted slots image seat fit none all c = sym (fit.counted_is c) ∙ (sym (all c) ∙ ap (act c) none)

-- how often a code is counted after a change
changed_here : (t : SeatView) (c : CodeId) (by : ℤ) (found m : ℕ) → pos (how_often t.counted c) +ℤ by ≡ pos m → how_often (count_changed t c by found).counted c ≡ m
changed_here t c (pos n) found m e = rw (same_code-refl c) (omega (arith, ints))
changed_here t c (negsuc n) found m e = rw (same_code-refl c) (omega (arith, ints))

changed_there : (t : SeatView) (c d : CodeId) (by : ℤ) (found : ℕ) → same_code d c ≡ false → how_often (count_changed t c by found).counted d ≡ how_often t.counted d
changed_there t c d (pos n) found e = rw e refl
changed_there t c d (negsuc n) found e = rw e refl

changed_fresh : (t : SeatView) (c : CodeId) (by : ℤ) (found : ℕ) → (count_changed t c by found).fresh ≡ t.fresh
changed_fresh t c (pos n) found = refl
changed_fresh t c (negsuc n) found = refl

changed_steps : (t : SeatView) (c : CodeId) (by : ℤ) (found : ℕ) → (count_changed t c by found).steps ≡ t.steps + 1
changed_steps t c (pos n) found = refl
changed_steps t c (negsuc n) found = refl

-- what a change asks of the seat
pub record IsChangeable (slots : ℕ) (seat : SeatView) (change : Change) : Type 0 where
  pub slot : change.code.slot < slots
  pub differs : change.by ≢ pos 0
  pub fresh : pos 0 <ℤ change.by → has_code seat.fresh change.code ≡ true
  pub few : (pos (how_often seat.counted change.code) +ℤ change.by) ≤ℤ pos 256
  pub counted : pos 0 ≤ℤ (pos (how_often seat.counted change.code) +ℤ change.by)

more_of : (t a : ℕ) (by : ℤ) → pos t +ℤ by ≡ pos a → pos 0 <ℤ by → t < a
more_of t a by e h = omega (arith, ints)

pub changeable : (slots : ℕ) (image image' : ImageView) (seat : SeatView) (change : Change) → IsFit slots image seat → Differs image change.code → Counts image image' change → IsChangeable slots seat change
changeable slots image image' seat change fit ne counts =
    let t : ℕ = times change.code image.counted in let a : ℕ = act change.code image.frames in
    let by : pos t +ℤ change.by ≡ pos a = counts.by in
    let often : how_often seat.counted change.code ≡ t = sym (fit.counted_is change.code) in
    let by' : pos (how_often seat.counted change.code) +ℤ change.by ≡ pos a = ap (λ n. pos n +ℤ change.by) often ∙ by in
    let few : a ≤ length image.frames = act_at_most change.code image.frames in let most = fit.few in record {
      slot = dite (ℕ_discrete a 0) (λ e. fit.counted_slots change.code (omega arith)) (λ n. fit.frame_slots change.code (omega arith));
      differs = λ e. ne (same_at change.by t a e by);
      fresh = λ h. fit.more_is_fresh change.code (more_of t a change.by by h);
      few = rw by' (omega (arith, ints));
      counted = rw by' (omega (arith, ints));
    }
  where
    same_at : (by : ℤ) (t a : ℕ) → by ≡ pos 0 → pos t +ℤ by ≡ pos a → a ≡ t
    same_at by t a e h = omega (arith, ints)

-- a change keeps the fit
pub change_fits : (slots : ℕ) (image image' : ImageView) (seat seat' : SeatView) (change : Change) (found : ℕ) → IsFit slots image seat → Counts image image' change → seat' ≡ count_changed seat change.code change.by found → IsFit slots image' seat'
change_fits slots image image' seat seat' change found fit counts is = subst (IsFit slots image') (sym is) (record {
  few = subst (λ fs. length fs ≤ 256) (sym counts.frames_stay) fit.few;
  counted_is = λ c. bag c (same_code c change.code) refl;
  more_is_fresh = λ c. more c (same_code c change.code) refl;
  frame_slots = λ c h. fit.frame_slots c (subst (λ fs. 0 < act c fs) counts.frames_stay h);
  counted_slots = λ c. slot c (same_code c change.code) refl;
})
  where
    frames_is : (c : CodeId) → act c image'.frames ≡ act c image.frames
    frames_is c = ap (act c) counts.frames_stay

    bag : (c : CodeId) (b : Bool) → same_code c change.code ≡ b → times c image'.counted ≡ how_often (count_changed seat change.code change.by found).counted c
    bag c true e = subst (λ d. times d image'.counted ≡ how_often (count_changed seat change.code change.by found).counted d) (sym (same_code-equal c change.code e))
        (counts.moved ∙ sym (changed_here seat change.code change.by found (act change.code image.frames) (ap (λ n. pos n +ℤ change.by) (sym (fit.counted_is change.code)) ∙ counts.by)))
    bag c false e = counts.others c e ∙ (fit.counted_is c ∙ sym (changed_there seat change.code c change.by found e))

    more : (c : CodeId) (b : Bool) → same_code c change.code ≡ b → times c image'.counted < act c image'.frames → has_code (count_changed seat change.code change.by found).fresh c ≡ true
    more c true e h = absurd (let m : times c image'.counted ≡ act c image.frames = subst (λ d. times d image'.counted ≡ act d image.frames) (sym (same_code-equal c change.code e)) counts.moved in let f = frames_is c in omega arith)
    more c false e h = ap (λ xs. has_code xs c) (changed_fresh seat change.code change.by found) ∙ fit.more_is_fresh c (let m = counts.others c e in let f = frames_is c in omega arith)

    slot : (c : CodeId) (b : Bool) → same_code c change.code ≡ b → 0 < times c image'.counted → c.slot < slots
    slot c true e h = fit.frame_slots c (let m : times c image'.counted ≡ act c image.frames = subst (λ d. times d image'.counted ≡ act d image.frames) (sym (same_code-equal c change.code e)) counts.moved in omega arith)
    slot c false e h = fit.counted_slots c (let m = counts.others c e in omega arith)

-- one more is made
pub one_made : (old image image' : ImageView) (start seat seat' : SeatView) (made : List (Change × ℕ)) (change : Change) (found : ℕ) → AreMade old image start seat made → Differs image change.code → Counts image image' change
    → seat' ≡ count_changed seat change.code change.by found → AreMade old image' start seat' ((change, found) ∷ made)
one_made old image image' start seat seat' made change found are ne counts is = record {
  frames_stay = counts.frames_stay ∙ are.frames_stay;
  publishing_stays = counts.publishing_stays ∙ are.publishing_stays;
  seat_is = is ∙ ap (λ t. count_changed t change.code change.by found) are.seat_is;
  each = λ c. once c (same_code change.code c) refl;
}
  where
    back : (c : CodeId) → same_code change.code c ≡ false → same_code c change.code ≡ false
    back c e = grind (arith, nat_tests)

    equal : (m n : ℕ) → m ≡ n → cond {A = ℕ} (not (eqb m n)) 1 0 ≡ 0
    equal m n e = grind (arith, nat_tests)

    different : (m n : ℕ) → m ≢ n → cond {A = ℕ} (not (eqb m n)) 1 0 ≡ 1
    different m n e = grind (arith, nat_tests)

    once : (c : CodeId) (b : Bool) → same_code change.code c ≡ b → times c (change.code ∷ changed made) + cond (is_uncounted image'.frames image'.counted c) 1 0 ≡ cond {A = ℕ} (is_uncounted old.frames old.counted c) 1 0
    once c true e =
        let cons : times c (change.code ∷ changed made) ≡ cond (same_code change.code c) 1 0 + times c (changed made) = times-cons c change.code (changed made) in
        let one : cond {A = ℕ} (same_code change.code c) 1 0 ≡ 1 = ap (λ x. cond {A = ℕ} x 1 0) e in
        let is : change.code ≡ c = same_code-equal change.code c e in
        let after : cond {A = ℕ} (is_uncounted image'.frames image'.counted c) 1 0 ≡ 0 = equal (act c image'.frames) (times c image'.counted) (subst (λ d. act d image'.frames ≡ times d image'.counted) is (ap (act change.code) counts.frames_stay ∙ sym counts.moved)) in
        let before : cond {A = ℕ} (is_uncounted image.frames image.counted c) 1 0 ≡ 1 = different (act c image.frames) (times c image.counted) (subst (λ d. act d image.frames ≢ times d image.counted) is ne) in
        let was = are.each c in omega arith
    once c false e =
        let cons : times c (change.code ∷ changed made) ≡ cond (same_code change.code c) 1 0 + times c (changed made) = times-cons c change.code (changed made) in
        let none : cond {A = ℕ} (same_code change.code c) 1 0 ≡ 0 = ap (λ x. cond {A = ℕ} x 1 0) e in
        let x : act c image'.frames ≡ act c image.frames = ap (act c) counts.frames_stay in
        let y : times c image'.counted ≡ times c image.counted = counts.others c (back c e) in
        let same : cond {A = ℕ} (is_uncounted image'.frames image'.counted c) 1 0 ≡ cond {A = ℕ} (is_uncounted image.frames image.counted c) 1 0 = λ i. cond {A = ℕ} (not (eqb (x i) (y i))) 1 0 in
        let was = are.each c in omega arith

-- a publication of one code alone
pub only_counted : (image new : ImageView) (start seat : SeatSeen) (change : Change) (found : ℕ) → IsFit start.board.slots image start.seen → Differs image change.code
    → Counts image (record new { changed = change.code ∷ [] }) change → seat.seen ≡ count_changed start.seen change.code change.by found → seat.board ≡ start.board → IsSettled new
    → AreCounted image new start seat
only_counted image new start seat change found fit differs counts step board settled =
    let none : AreMade image image start.seen start.seen [] = record { frames_stay = refl; publishing_stays = refl; seat_is = refl; each = λ c. omega arith } in
    let made = one_made image image (record new { changed = change.code ∷ [] }) start.seen start.seen seat.seen [] change found none differs counts step in
    let fits = change_fits start.board.slots image (record new { changed = change.code ∷ [] }) start.seen seat.seen change found fit counts step in record {
      board_stays = board;
      fit = record { few = fits.few; counted_is = fits.counted_is; more_is_fresh = fits.more_is_fresh; frame_slots = fits.frame_slots; counted_slots = fits.counted_slots };
      changes = (change, found) ∷ [];
      made = record { frames_stay = made.frames_stay; publishing_stays = made.publishing_stays; seat_is = made.seat_is; each = made.each };
      settled = settled;
    }

pub all_steps : (t : SeatView) (made : List (Change × ℕ)) → (all_changed t made).steps ≡ t.steps + length made
all_steps t [] = omega arith
all_steps t (x ∷ xs) = let rec = all_steps t xs in let one = changed_steps (all_changed t xs) x.0.code x.0.by x.1 in omega arith

-- each code that was uncounted was changed once, where every frame is counted
pub all_made : (old image : ImageView) (start seat : SeatView) (made : List (Change × ℕ)) → AreMade old image start seat made → IsCounted image → (c : CodeId) → times c (changed made) ≡ cond {A = ℕ} (is_uncounted old.frames old.counted c) 1 0
all_made old image start seat made are all c =
    let same : act c image.frames ≡ times c image.counted = all c in
    let zero : cond {A = ℕ} (is_uncounted image.frames image.counted c) 1 0 ≡ 0 = equal (act c image.frames) (times c image.counted) same in
    let was = are.each c in omega arith
  where
    equal : (m n : ℕ) → m ≡ n → cond {A = ℕ} (not (eqb m n)) 1 0 ≡ 0
    equal m n e = grind (arith, nat_tests)

changed_moment : (t : SeatView) (c : CodeId) (by : ℤ) (found : ℕ) → ((count_changed t c by found).moment ≡ t.moment) × ((count_changed t c by found).place ≡ t.place)
changed_moment t c (pos n) found = (refl, refl)
changed_moment t c (negsuc n) found = (refl, refl)

pub all_moment : (t : SeatView) (made : List (Change × ℕ)) → ((all_changed t made).moment ≡ t.moment) × ((all_changed t made).place ≡ t.place)
all_moment t [] = (refl, refl)
all_moment t (x ∷ xs) = let rec = all_moment t xs in let one = changed_moment (all_changed t xs) x.0.code x.0.by x.1 in (one.0 ∙ rec.0, one.1 ∙ rec.1)

-- the moment and the place of a seat that read the moment and then counted
pub counted_moment : (old image : ImageView) (t0 t1 t2 : SeatView) (made : List (Change × ℕ)) → t1 ≡ moment_read t0 t1.moment → AreMade old image t1 t2 made → (t2.moment ≡ t1.moment) × (t2.place ≡ t0.place)
counted_moment old image t0 t1 t2 made read are =
    let w = all_moment t1 made in
    (ap (λ (t : SeatView). t.moment) are.seat_is ∙ w.0, ap (λ (t : SeatView). t.place) are.seat_is ∙ (w.1 ∙ ap (λ (t : SeatView). t.place) read))

-- the changes that were made while a publication was open were made of the image before it
pub closed_made : (old begun image image' : ImageView) (start seat : SeatView) (made : List (Change × ℕ)) → begun ≡ record { frames = old.frames; counted = old.counted; changed = old.changed; publishing = true } → AreMade begun image start seat made
    → old.publishing ≡ false → image'.frames ≡ image.frames → IsCounted image → IsSettled image' → AreMade old image' start seat made
closed_made old begun image image' start seat made begin are closed frames all settled = record {
  frames_stay = frames ∙ (are.frames_stay ∙ ap (λ (v : ImageView). v.frames) begin);
  publishing_stays = settled.0 ∙ sym closed;
  seat_is = are.seat_is;
  each = λ c.
      let was : cond {A = ℕ} (is_uncounted begun.frames begun.counted c) 1 0 ≡ cond (is_uncounted old.frames old.counted c) 1 0 = ap (λ (v : ImageView). cond {A = ℕ} (is_uncounted v.frames v.counted c) 1 0) begin in
      let none : cond {A = ℕ} (is_uncounted image'.frames image'.counted c) 1 0 ≡ 0 = equal (act c image'.frames) (times c image'.counted) (settled.1 c) in
      let once = all_made begun image start seat made are all c in omega arith;
}
  where
    equal : (m n : ℕ) → m ≡ n → cond {A = ℕ} (not (eqb m n)) 1 0 ≡ 0
    equal m n e = grind (arith, nat_tests)

pub published : (name : ℕ) (poller : Watching) (image image' : ImageView) (t0 t1 t2 t3 : SeatView) (made : List (Change × ℕ))
    → t1 ≡ moment_read t0 t1.moment → 0 < t1.moment → AreMade image image' t1 t2 made → IsSettled image' → t3 ≡ stored_as t2 t2.moment
    → IsPublished (record { name = name; image = image; seat = t0; poller = poller }) (record { name = name; image = image'; seat = t3; poller = poller })
published name poller image image' t0 t1 t2 t3 made read some are settled end =
    let m : ℕ = t1.moment in
    let counted : t2 ≡ all_changed (moment_read t0 m) made = are.seat_is ∙ ap (λ t. all_changed t made) read in
    let moment_is : t2.moment ≡ m = (counted_moment image image' t0 t1 t2 made read are).0 in
    let whole : t3 ≡ stored_as (all_changed (moment_read t0 m) made) m = end ∙ (λ i. stored_as (counted i) (moment_is i)) in record {
      moment = m;
      made = made;
      each_once = all_made image image' t1 t2 made are settled.1;
      seat_is = whole;
      steps_are = let a : t3.steps ≡ (all_changed (moment_read t0 m) made).steps + 1 = ap (λ (t : SeatView). t.steps) whole in let b : (all_changed (moment_read t0 m) made).steps ≡ (t0.steps + 1) + length made = all_steps (moment_read t0 m) made in omega arith;
      some_moment = some;
      stored_is = ap (λ (t : SeatView). t.stored) whole;
      frames_stay = are.frames_stay;
      settled = settled;
      name_stays = refl;
      place_stays = ap (λ (t : SeatView). t.place) whole ∙ (all_moment (moment_read t0 m) made).1;
      poller_stays = refl;
    }

-- a code that a body has a frame of is counted or fresh
pub framed_held : (slots : ℕ) (image : ImageView) (seat : SeatView) (c : CodeId) → IsFit slots image seat → 0 < act c image.frames → IsHeld seat c
framed_held slots image seat c fit some =
    dite (ℕ_discrete (times c image.counted) 0)
    (λ e. inr (fit.more_is_fresh c (omega arith)))
    (λ ne. inl (let a = fit.counted_is c in omega arith))

-- the code of each frame stands, whenever the rule holds
pub all_stand : (slots : ℕ) (image : ImageView) (seat : SeatView) → IsFit slots image seat → AreStanding image seat
all_stand slots image seat fit n places b kept low is c some =
    let held : IsHeldBy (b.seat seat.place) c = subst (λ (t : SeatState). IsHeldBy t c) (sym is) (framed_held slots image seat c fit some) in
    let stands : IsStanding n b c = kept.held_stands seat.place low c held in
    let word = kept.keeper_words.0 c.slot stands.0 in
    ⊎_elim
    (λ e. inl (word ∙ (λ i. pack (stands.1 i) (e i))))
    (λ e. inr (word ∙ (λ i. pack (stands.1 i) (e i))))
    stands.2
