-- Rows of steps of the work on the open requests.
use Rattle.std.proofs.Common.{◌≡◌, ◌⊎◌, ◌∙◌, ℕ, List, [], ◌∷◌, Option, Some, None, Ok, Err, inl, inr, refl, sym, ap, subst}
use Rattle.std.specs.Prelude.{Result, IfOk, IfErr, OnErr, IfSome, IfNone}
use Rattle.berths.specs.Berths.{Moved}
use Rattle.desk.specs.Finishing.{FinishSeen}
use Rattle.stopped_threads.specs.Holding.{Holding}
use Rattle.coordinator_core.specs.Called.{ServesCalled, IsLeft}
use Rattle.coordinator_core.specs.Done.{Releases}
use Rattle.coordinator_core.specs.declared.drive.Callback.{Callback}
use Rattle.coordinator_core.specs.declared.drive.Callback.TheVariants as callback
use Rattle.parties.specs.declared.acts.Fault.{Fault}
use Rattle.parties.specs.declared.acts.Fault.TheVariants as fault
use Rattle.parties.specs.Asked.{Told}
use Rattle.parties.specs.Driven.{Work, work, Step, Goes, Leads, Called, Held, Closed, Rests, Ends, Advances, ArmsListed, ArmsAsked}

pub none : (N : Type 0) (old new : Work) → new ≡ old → Leads N old new
none N old new e = record { between = []; goes = e }

pub one : (N : Type 0) (old new : Work) → Step N old new → Leads N old new
one N old new step = record { between = old ∷ []; goes = (refl, step) }

joined : (N : Type 0) (a b c : Work) (ws vs : List Work) → Goes N ws a b → Goes N vs b c → (us : List Work) × Goes N us a c
joined N a b c ws [] p q = (ws, subst (λ (x : Work). Goes N ws a x) (sym q) p)
joined N a b c ws (last ∷ before) p q = let r = joined N a b last ws before p q.0 in (last ∷ r.0, (r.1, q.1))

pub then : (N : Type 0) (a b c : Work) → Leads N a b → Leads N b c → Leads N a c
then N a b c p q = let r = joined N a b c p.between q.between p.goes q.goes in record { between = r.0; goes = r.1 }

-- The same holding and the same callback.
pub same : (N : Type 0) (old new : Holding) (before after : Option Callback) → new ≡ old → after ≡ before → Leads N (work old before) (work new after)
same N old new before after h c = none N (work old before) (work new after) (ap (λ (x : Holding). work x after) h ∙ ap (λ (x : Option Callback). work old x) c)

-- A held thread was released, or nothing changed.
pub let_go : (N : Type 0) (old new : Holding) (place : ℕ) (called : Option Callback) → ((receipt : Moved) × Releases old new place receipt) ⊎ (new ≡ old)
    → Leads N (work old called) (work new called)
let_go N old new place called (inl did) = one N (work old called) (work new called) (inr (inr (inr (inr (inr (inr (inr (place, did.0, did.1, refl))))))))
let_go N old new place called (inr e) = same N old new called called e refl

-- A release, by its result at the room.
pub released : (old new : Holding) (place : ℕ) (said : Option (Option Moved)) (same : Type 0) (gone : Type 0) (none : Type 0) → IfSome said (λ o. IfSome o (Releases old new place))
    → IfSome said (λ o. IfNone o ((new ≡ old) × same)) → IfNone said (none × (new ≡ old) × gone) → ((receipt : Moved) × Releases old new place receipt) ⊎ (new ≡ old)
released old new place None s g n did stays refused = inr refused.1
released old new place (Some None) s g n did stays refused = inr stays.0
released old new place (Some (Some receipt)) s g n did stays refused = inl (receipt, did)

-- The callback ends: its thread was served, or wasn't.
pub dropped : (N : Type 0) (old new : Holding) (number place : ℕ) (before after : Option Callback) → before ≡ Some (callback.Handshake number place) → after ≡ None → IsLeft place old new
    → Leads N (work old before) (work new after)
dropped N old new number place before after is ends left = one N (work old before) (work new after) (inr (inr (inr (inr (inl (number, place, is, left, ends))))))

pub settled : {E : Type 0} (N : Type 0) (old new : Holding) (number place : ℕ) (before after : Option Callback) (said : Result FinishSeen E) → before ≡ Some (callback.Handshake number place) → after ≡ None
    → IfOk said (ServesCalled old new place number) → OnErr said (IsLeft place old new) → Leads N (work old before) (work new after)
settled N old new number place before after (Ok finish) is ends did left = one N (work old before) (work new after) (inr (inr (inr (inl (number, place, finish, is, did, ends)))))
settled N old new number place before after (Err e) is ends did left = dropped N old new number place before after is ends left

-- The host has run its VM operation.
pub ran : (N : Type 0) (old new : Holding) (number : ℕ) (before after : Option Callback) → before ≡ Some (callback.Safepoint number) → after ≡ None → new ≡ old
    → Leads N (work old before) (work new after)
ran N old new number before after is ends stays =
    let both = ap (λ (x : Holding). work x after) stays ∙ ap (λ (x : Option Callback). work old x) ends in
    one N (work old before) (work new after) (inr (inr (inr (inr (inr (inl (number, is, both)))))))

-- A row of steps, and at most one more: a thread is held, called or released, or its place is armed.
pub held_then : (N : Type 0) (a : Work) (old new : Holding) (before after : Option Callback) → Leads N a (work old before)
    → Held N (work old before) (work new after) ⊎ ((new ≡ old) × (after ≡ before)) → Leads N a (work new after)
held_then N a old new before after p (inl held) = then N a (work old before) (work new after) p (one N (work old before) (work new after) (inr (inr (inr (inr (inr (inr (inl held))))))))
held_then N a old new before after p (inr stays) = then N a (work old before) (work new after) p (same N old new before after stays.0 stays.1)

pub called_then : (N : Type 0) (a : Work) (old new : Holding) (before after : Option Callback) → Leads N a (work old before) → Called N (work old before) (work new after) → Leads N a (work new after)
called_then N a old new before after p called = then N a (work old before) (work new after) p (one N (work old before) (work new after) (inr (inr (inl called))))

pub released_then : (N : Type 0) (a : Work) (old new : Holding) (called : Option Callback) → Leads N a (work old called)
    → ((place : ℕ) × (receipt : Moved) × Releases old new place receipt) ⊎ (new ≡ old) → Leads N a (work new called)
released_then N a old new called p (inl did) = then N a (work old called) (work new called) p (let_go N old new did.0 called (inl (did.1, did.2)))
released_then N a old new called p (inr stays) = then N a (work old called) (work new called) p (same N old new called called stays refl)

pub armed_then : (N : Type 0) (a : Work) (old new : Holding) (before after : Option Callback) → Leads N a (work old before) → after ≡ before
    → ArmsListed old new ⊎ (ArmsAsked old new ⊎ (new ≡ old)) → Leads N a (work new after)
armed_then N a old new before after p same_call (inl listed) = then N a (work old before) (work new after) p (one N (work old before) (work new after) (inr (inl (inl listed, same_call))))
armed_then N a old new before after p same_call (inr (inl asked)) = then N a (work old before) (work new after) p (one N (work old before) (work new after) (inr (inl (inr asked, same_call))))
armed_then N a old new before after p same_call (inr (inr stays)) = then N a (work old before) (work new after) p (same N old new before after stays same_call)

-- The body that was taken last was released, or nothing changed.
pub last_released : (old new : Holding) (said : Option Moved) (P : Type 0) → IfSome said (λ r. Releases old new r.body.seat.place r) → IfNone said ((new ≡ old) × P)
    → ((place : ℕ) × (receipt : Moved) × Releases old new place receipt) ⊎ (new ≡ old)
last_released old new None P did stays = inr stays.0
last_released old new (Some receipt) P did stays = inl (receipt.body.seat.place, receipt, did)

-- A row of steps, and then the oldest open request is closed, or nothing changes and the work rests.
pub closed_then : (N : Type 0) (a : Work) (mid new : Holding) (before after : Option Callback) (said : Told) → Leads N a (work mid before)
    → IfOk said (λ n. Closed (work mid before) n (work new after)) → OnErr said ((new ≡ mid) × (after ≡ before)) → IfErr said (Rests (work new after)) → Ends N a said (work new after)
closed_then N a mid new before after (Ok n) p closed stays rests = (work mid before, p, closed)
closed_then N a mid new before after (Err e) p closed stays rests = (then N a (work mid before) (work new after) p (same N mid new before after stays.0 stays.1), rests)

-- A row of steps, and then the end of the work.
pub advanced : (N : Type 0) (a mid new : Work) (counted counts : List (ℕ × ℕ)) (said : Told) → counts ≡ counted → Leads N a mid → Ends N mid said new
    → Advances N a counted said new counts
advanced N a mid new counted counts (Ok n) same_counts p ends = (same_counts, (ends.0, then N a mid ends.0 p ends.1, ends.2))
advanced N a mid new counted counts (Err fault.AtSafepoint) same_counts p ends = absurd ends.1
advanced N a mid new counted counts (Err fault.Again) same_counts p ends = (same_counts, (then N a mid new p ends.0, ends.1))
advanced N a mid new counted counts (Err fault.NoMemory) same_counts p ends = (same_counts, (then N a mid new p ends.0, ends.1))
advanced N a mid new counted counts (Err fault.NotThis) same_counts p ends = (same_counts, (then N a mid new p ends.0, ends.1))
advanced N a mid new counted counts (Err fault.Illegal) same_counts p ends = (same_counts, (then N a mid new p ends.0, ends.1))
advanced N a mid new counted counts (Err fault.NoSuchMethod) same_counts p ends = (same_counts, (then N a mid new p ends.0, ends.1))
advanced N a mid new counted counts (Err fault.DepthFull) same_counts p ends = (same_counts, (then N a mid new p ends.0, ends.1))
advanced N a mid new counted counts (Err fault.EmptyStack) same_counts p ends = (same_counts, (then N a mid new p ends.0, ends.1))
advanced N a mid new counted counts (Err fault.StackNotEmpty) same_counts p ends = (same_counts, (then N a mid new p ends.0, ends.1))
advanced N a mid new counted counts (Err fault.Pending) same_counts p ends = (same_counts, (then N a mid new p ends.0, ends.1))
advanced N a mid new counted counts (Err fault.NotAnswered) same_counts p ends = (same_counts, (then N a mid new p ends.0, ends.1))
advanced N a mid new counted counts (Err fault.NotWeighed) same_counts p ends = (same_counts, (then N a mid new p ends.0, ends.1))
advanced N a mid new counted counts (Err (fault.Late place)) same_counts p ends = (same_counts, (then N a mid new p ends.0, ends.1))
advanced N a mid new counted counts (Err fault.Runs) same_counts p ends = (same_counts, (then N a mid new p ends.0, ends.1))
advanced N a mid new counted counts (Err fault.Awaits) same_counts p ends = (same_counts, (then N a mid new p ends.0, ends.1))
advanced N a mid new counted counts (Err (fault.Start f)) same_counts p ends = (same_counts, (then N a mid new p ends.0, ends.1))
advanced N a mid new counted counts (Err (fault.Ask f)) same_counts p ends = (same_counts, (then N a mid new p ends.0, ends.1))
advanced N a mid new counted counts (Err (fault.Code f)) same_counts p ends = (same_counts, (then N a mid new p ends.0, ends.1))
advanced N a mid new counted counts (Err (fault.Invalidate f)) same_counts p ends = (same_counts, (then N a mid new p ends.0, ends.1))
advanced N a mid new counted counts (Err (fault.Open f)) same_counts p ends = (same_counts, (then N a mid new p ends.0, ends.1))
advanced N a mid new counted counts (Err (fault.Tell f)) same_counts p ends = (same_counts, (then N a mid new p ends.0, ends.1))
advanced N a mid new counted counts (Err (fault.Hold f)) same_counts p ends = (same_counts, (then N a mid new p ends.0, ends.1))
advanced N a mid new counted counts (Err (fault.Serve f)) same_counts p ends = (same_counts, (then N a mid new p ends.0, ends.1))
advanced N a mid new counted counts (Err (fault.Release f)) same_counts p ends = (same_counts, (then N a mid new p ends.0, ends.1))
advanced N a mid new counted counts (Err (fault.Operate f)) same_counts p ends = (same_counts, (then N a mid new p ends.0, ends.1))
advanced N a mid new counted counts (Err (fault.Close f)) same_counts p ends = (same_counts, (then N a mid new p ends.0, ends.1))
advanced N a mid new counted counts (Err (fault.Reclaim f)) same_counts p ends = (same_counts, (then N a mid new p ends.0, ends.1))
