-- An image matches its thread through each change of stack and publication.
use Rattle.std.proofs.Common.{◌≡◌, ℕ, ◌+◌, ◌<◌, ◌∙◌, sym, Bool, true, false, not, ◌&&◌, ◌||◌, eqb, List, [], ◌∷◌, ◌++◌, Option, Some, None, refl, ap, ap₂, subst, cond, arith, pos, ◌-ℤ◌, take, length, ◌-◌}
use Rattle.std.specs.Prelude.{filter, is_some, is_none}
use Rattle.std.proofs.lemmas.Bool.Decides.{nat_tests}
use Rattle.std.proofs.lemmas.Int.{ints}
use Rattle.std.proofs.lemmas.Grind.{common_steps}
use Rattle.frames.specs.declared.CodeId.{CodeId}
use Rattle.frames.specs.declared.Frame.{Frame}
use Rattle.frames.specs.declared.Change.{Change}
use Rattle.frames.specs.Stack.{same_code, act, codes_of, times}
use Rattle.frames.specs.Least.{least}
use Rattle.frames.specs.ImageView.{ImageView, uncounted, next_code, IsCounted, HasFrames, Counts}
use Rattle.frames.proofs.Bags.{times-append, times-filter, times-codes_of, same_code-equal}
use Rattle.frames.proofs.Ordered.{IsLeast, least-is_least, least-unique}
use Rattle.frames.proofs.Uncounted.{times-uncounted}
use Rattle.system.specs.Threads.{Thread, has_changed, changed_codes, is_left, next_change, is_settled, part}
use Rattle.system.specs.Marking.{SameImage}

-- no publication is open
pub closed_is_none : (o : Option (List CodeId)) → is_some o ≡ false → o ≡ None
closed_is_none None h = refl
closed_is_none (Some codes) h = cc

pub part_closed : (code : CodeId) (t : Thread) → t.changed ≡ None → part code t ≡ act code t.shown
part_closed code t none = rw none refl

pub begun : (old new : ImageView) (t : Thread) → SameImage old t → old.publishing ≡ false → new ≡ record old { publishing = true } → SameImage new (record t { changed = Some [] })
begun old new t h closed e = rw e (record {
  frames = h.frames;
  publishing = refl;
  counted = λ code. h.counted code ∙ part_closed code t (closed_is_none t.changed (sym h.publishing ∙ closed));
})

pub with_frames : (old new : ImageView) (t : Thread) (stack : List Frame) → SameImage old t → old.publishing ≡ false → HasFrames old new stack → SameImage new (record t { stack = stack })
with_frames old new t stack h closed has =
    let none = closed_is_none t.changed (sym h.publishing ∙ closed) in
    record {
      frames = has.frames_are;
      publishing = has.publishing_stays ∙ h.publishing;
      counted = λ code. has.counted_stay code ∙ (h.counted code ∙ (part_closed code t none ∙ sym (part_closed code (record t { stack = stack }) none)));
    }

pub ended : (old new : ImageView) (t : Thread) → SameImage old t → new.frames ≡ old.frames → new.publishing ≡ false → IsCounted new → SameImage new (record t { shown = t.stack; published = true; changed = None })
ended old new t h frames closed counted = record {
  frames = frames ∙ h.frames;
  publishing = closed;
  counted = λ code. sym (counted code) ∙ ap (act code) (frames ∙ h.frames);
}

pub times-left : (t : Thread) (code : CodeId) → times code (filter (is_left t) (codes_of t.stack ++ codes_of t.shown)) ≡ cond (is_left t code) (act code t.stack + act code t.shown) 0
times-left t code =
    times-filter (is_left t) code (codes_of t.stack ++ codes_of t.shown)
    ∙ ap (λ n. cond (is_left t code) n 0) (times-append code (codes_of t.stack) (codes_of t.shown) ∙ ap₂ (λ m n. m + n) (times-codes_of code t.stack) (times-codes_of code t.shown))

there : (given : Bool) (f s : ℕ) → 0 < cond (not (eqb f (cond given f s))) (f + cond given f s) 0 → 0 < cond (not given && not (eqb f s)) (f + s) 0
there true f s h = grind (arith, nat_tests)
there false f s h = h

back : (given : Bool) (f s : ℕ) → 0 < cond (not given && not (eqb f s)) (f + s) 0 → 0 < cond (not (eqb f (cond given f s))) (f + cond given f s) 0
back true f s h = grind (arith, nat_tests)
back false f s h = h

-- the image's next code is the least that the thread has left
pub next_is_left : (image : ImageView) (t : Thread) → SameImage image t → next_code image ≡ next_change t
next_is_left image t h =
    let ours : List CodeId = uncounted image.frames image.counted in
    let theirs : List CodeId = filter (is_left t) (codes_of t.stack ++ codes_of t.shown) in
    least-unique ours theirs (least ours) (least theirs)
    (λ code k. rw (times-left t code) (there (has_changed t code) (act code t.stack) (act code t.shown) (rw (times-uncounted image.frames image.counted code, h.counted code, h.frames) at k)))
    (λ code k. rw (times-uncounted image.frames image.counted code, h.counted code, h.frames) (back (has_changed t code) (act code t.stack) (act code t.shown) (rw (times-left t code) at k)))
    (least-is_least ours) (least-is_least theirs)

-- a code that is left hasn't changed yet
pub left_is_new : (t : Thread) (code : CodeId) → next_change t ≡ Some code → has_changed t code ≡ false
left_is_new t code h =
    let theirs : List CodeId = filter (is_left t) (codes_of t.stack ++ codes_of t.shown) in
    let P : Option CodeId → Type 0 = λ o. IsLeast theirs o in
    let some : IsLeast theirs (Some code) = subst P h (least-is_least theirs) in
    new_where (has_changed t code) (act code t.stack) (act code t.shown) (rw (times-left t code) at some.0)
  where
    new_where : (given : Bool) (f s : ℕ) → 0 < cond (not given && not (eqb f s)) (f + s) 0 → given ≡ false
    new_where true f s k = absurd (omega arith)
    new_where false f s k = refl

part_step : (same among : Bool) (f s n : ℕ) → (same ≡ true → n ≡ f) → (same ≡ false → n ≡ cond among f s) → n ≡ cond (same || among) f s
part_step true among f s n here other = here refl
part_step false among f s n here other = other refl

same_code-sym : (a b : CodeId) → same_code a b ≡ false → same_code b a ≡ false
same_code-sym a b h = grind (arith, nat_tests)

-- a change of the image is a change of the thread
pub counted_is_changed : (old new : ImageView) (t : Thread) (change : Change) → SameImage old t → old.publishing ≡ true → Counts old new change → SameImage new (record t { changed = Some (change.code ∷ changed_codes t) })
counted_is_changed old new t change h open_ counts = record {
  frames = counts.frames_stay ∙ h.frames;
  publishing = counts.publishing_stays ∙ open_;
  counted = λ code. part_step (same_code change.code code) (has_changed t code) (act code t.stack) (act code t.shown) (times code new.counted)
      (λ same. (let P : CodeId → Type 0 = λ c. times c new.counted ≡ act c t.stack in subst P (same_code-equal change.code code same) (counts.moved ∙ ap (act change.code) h.frames)))
      (λ other. counts.others code (same_code-sym change.code code other) ∙ h.counted code);
}

-- the change has the thread's difference
pub counted_by_difference : (old new : ImageView) (t : Thread) (change : Change) → SameImage old t → next_change t ≡ Some change.code → Counts old new change → change.by ≡ pos (act change.code t.stack) -ℤ pos (act change.code t.shown)
counted_by_difference old new t change h next counts =
    let part_is : part change.code t ≡ act change.code t.shown = ap (λ b. cond b (act change.code t.stack) (act change.code t.shown)) (left_is_new t change.code next) in
    let by = rw (h.counted change.code, part_is, h.frames) at counts.by in
    omega (arith, ints)

pub stack_is : (old new : ImageView) (xs ys : List Frame) → xs ≡ ys → HasFrames old new xs → HasFrames old new ys
stack_is old new xs ys e h = record { frames_are = h.frames_are ∙ e; counted_stay = h.counted_stay; changed_stay = h.changed_stay; publishing_stays = h.publishing_stays }

pub take_front : (xs ys : List Frame) (y : Frame) → xs ≡ ys ++ y ∷ [] → ys ≡ take (length xs - 1) xs
take_front xs ys y e = rw e (grind (arith, common_steps))

-- an open publication has no code left if and only if every frame is counted
pub is_settled_by : (image : ImageView) (t : Thread) → SameImage image t → is_settled t ≡ not image.publishing && is_none (next_code image)
is_settled_by image t h = rw (next_is_left image t h, h.publishing) refl

pub none_is : (o : Option CodeId) → is_some o ≡ false → o ≡ None
none_is None h = refl
none_is (Some code) h = cc

pub some_is : (o : Option CodeId) → is_some o ≡ true → is_none o ≡ false
some_is None h = cc
some_is (Some code) h = refl

uncounted_none : (image : ImageView) (o : Option CodeId) → IsCounted image → next_code image ≡ o → o ≡ None
uncounted_none image None all e = refl
uncounted_none image (Some code) all e =
    let ours : List CodeId = uncounted image.frames image.counted in
    let P : Option CodeId → Type 0 = λ o. IsLeast ours o in
    let some : IsLeast ours (Some code) = subst P e (least-is_least ours) in
    absurd (bad (act code image.frames) (times code image.counted) (all code) (rw (times-uncounted image.frames image.counted code) at some.0))
  where
    bad : (f s : ℕ) → f ≡ s → 0 < cond (not (eqb f s)) (f + s) 0 → ⊥
    bad f s same h = grind (arith, nat_tests)

-- if every frame is counted, no code is next
pub counted_none : (image : ImageView) → IsCounted image → next_code image ≡ None
counted_none image all = uncounted_none image (next_code image) all refl
