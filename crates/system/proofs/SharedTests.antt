-- The common tests of all acts.
use Rattle.std.proofs.Common.{◌≡◌, ◌∙◌, ap, refl, true, false, not, ◌&&◌, ◌||◌, Bool, cond, Option, Some, None}
use Rattle.thread_state.specs.declared.State.{State}
use Rattle.system.specs.declared.thread.Thread.{Thread as Kept}
use Rattle.system.specs.declared.events.Act.{Act}
use Rattle.system.specs.declared.answers.Refusal.{Refusal}
use Rattle.system.specs.declared.answers.Refusal.TheVariants.{Illegal, Publishing}
use Rattle.system.specs.Verdict.{Verdict, refused, unless◌refuse◌then◌}
use Rattle.system.specs.Threads.{Thread}
use Rattle.system.specs.World.{World}
use Rattle.system.specs.Places.{Effect, here, does, is_lawful, lawful_in, may_while_publishing}
use Rattle.system.specs.Marking.{SameThread}
use Rattle.system.specs.Kept.Threads.{common_refusal}

lawful_by : (act : Act) (t : Thread) → is_lawful act t ≡ lawful_in act t.held t.state
lawful_by act t = refl

passes : (p m l : Bool) (s : State) (v : Verdict Effect) → ◌≡◌ {A = Option Refusal} (cond (p && not m) (Some Publishing) (cond (not l) (Some (Illegal s)) None)) None → (unless not p || m refuse Publishing then unless l refuse Illegal s then v) ≡ v
passes true true true s v h = refl
passes true true false s v h = cc
passes true false l s v h = cc
passes false m true s v h = refl
passes false m false s v h = cc

fails : (p m l : Bool) (s : State) (v : Verdict Effect) (r : Refusal) → cond (p && not m) (Some Publishing) (cond (not l) (Some (Illegal s)) None) ≡ Some r → (unless not p || m refuse Publishing then unless l refuse Illegal s then v) ≡ refused r
fails true true true s v r h = cc
fails true true false s v r h = ap refused (let e : Illegal s ≡ r = cc in e)
fails true false l s v r h = ap refused (let e : Publishing ≡ r = cc in e)
fails false m true s v r h = cc
fails false m false s v r h = ap refused (let e : Illegal s ≡ r = cc in e)

-- the tests by the system's state
tests_by : (w : World) (act : Act) (kept : Kept) (t : Thread) → SameThread kept t
    → here w act t ≡ (unless not kept.image.publishing || may_while_publishing act refuse Publishing then unless lawful_in act kept.held kept.state refuse Illegal kept.state then does w act t)
tests_by w act kept t same = rw (lawful_by act t, same.held, same.state, same.image.publishing) refl

pub here_passed : (w : World) (act : Act) (kept : Kept) (t : Thread) → SameThread kept t → common_refusal kept act ≡ None → here w act t ≡ does w act t
here_passed w act kept t same none = tests_by w act kept t same ∙ passes kept.image.publishing (may_while_publishing act) (lawful_in act kept.held kept.state) kept.state (does w act t) none

pub here_failed : (w : World) (act : Act) (kept : Kept) (t : Thread) (r : Refusal) → SameThread kept t → common_refusal kept act ≡ Some r → here w act t ≡ refused r
here_failed w act kept t r same some = tests_by w act kept t same ∙ fails kept.image.publishing (may_while_publishing act) (lawful_in act kept.held kept.state) kept.state (does w act t) r some

by_tests : (p m l : Bool) (s : State) → ◌≡◌ {A = Option Refusal} (cond (p && not m) (Some Publishing) (cond (not l) (Some (Illegal s)) None)) None → (p && not m ≡ false) × (l ≡ true)
by_tests true true true s h = (refl, refl)
by_tests true true false s h = cc
by_tests true false l s h = cc
by_tests false m true s h = (refl, refl)
by_tests false m false s h = cc

-- the facts after the common tests
pub is_quiet : (kept : Kept) (act : Act) → common_refusal kept act ≡ None → (kept.image.publishing && not (may_while_publishing act) ≡ false) × (lawful_in act kept.held kept.state ≡ true)
is_quiet kept act none = by_tests kept.image.publishing (may_while_publishing act) (lawful_in act kept.held kept.state) kept.state none

closed_of : (p : Bool) → p && true ≡ false → p ≡ false
closed_of true h = cc
closed_of false h = refl

pub is_closed : (kept : Kept) (act : Act) → may_while_publishing act ≡ false → common_refusal kept act ≡ None → kept.image.publishing ≡ false
is_closed kept act never none = closed_of kept.image.publishing (rw never at (is_quiet kept act none).0)
