-- Entries of the log that a seat doesn't notice.
use Rattle.std.proofs.Common.{◌≡◌, ℕ, true, false, ◌∷◌, List, refl}
use Rattle.std.proofs.lemmas.Bool.{false≢true}
use Rattle.system.specs.declared.events.Act.{Act}
use Rattle.system.specs.declared.events.Act.TheVariants as act
use Rattle.system.specs.declared.events.Event.TheVariants as event
use Rattle.system.specs.declared.answers.Answer.{Answer}
use Rattle.system.specs.Log.{Entry, is_begin, is_end}
use Rattle.system.specs.Moments.{starts, is_exit, enters_code, is_fresh}
use Rattle.system.proofs.Outcomes.{is_move}
use Rattle.tie.specs.BoardOf.{misses_code, is_missed}

-- The seat of the place q doesn't notice the entry.
pub record IsUnseen (q : ℕ) (e : Entry) : Type 0 where
  pub starts_not : starts q e.event e.answer ≡ false
  pub exits_not : is_exit q e.event ≡ false
  pub begins_not : is_begin q e.event ≡ false
  pub ends_not : is_end q e.event ≡ false
  pub enters_not : (s : ℕ) → enters_code q s e.event e.answer ≡ false
  pub misses_not : (s : ℕ) → misses_code q s e.event e.answer ≡ false

pub unseen_fresh : (q s : ℕ) (e : Entry) (log : List Entry) → IsUnseen q e → is_fresh q s (e ∷ log) ≡ is_fresh q s log
unseen_fresh q s e log h = let a = h.starts_not in let b = h.exits_not in let c = h.ends_not in let d = h.enters_not s in rw (a, b, c, d) refl

pub unseen_missed : (q s : ℕ) (e : Entry) (log : List Entry) → IsUnseen q e → is_missed q s (e ∷ log) ≡ is_missed q s log
unseen_missed q s e log h = let a = h.misses_not s in rw a refl

-- The acts that change the state alone, one by one.
pub each_move : (Q : Act → Type 0) → Q act.Wake → Q act.Cross → Q act.Edge → Q act.ToVm → Q act.FromVm → Q act.ToNative → Q act.Block → Q act.Take → (a : Act) → is_move a ≡ true → Q a
each_move Q wake cross edge to_vm from_vm to_native block take act.Wake h = wake
each_move Q wake cross edge to_vm from_vm to_native block take act.Cross h = cross
each_move Q wake cross edge to_vm from_vm to_native block take act.Edge h = edge
each_move Q wake cross edge to_vm from_vm to_native block take act.ToVm h = to_vm
each_move Q wake cross edge to_vm from_vm to_native block take act.FromVm h = from_vm
each_move Q wake cross edge to_vm from_vm to_native block take act.ToNative h = to_native
each_move Q wake cross edge to_vm from_vm to_native block take act.Block h = block
each_move Q wake cross edge to_vm from_vm to_native block take act.Take h = take
each_move Q wake cross edge to_vm from_vm to_native block take a h = absurd (false≢true h)

-- No seat notices them.
pub move_unseen : (p q : ℕ) (a : Act) (given : Answer) → is_move a ≡ true → IsUnseen q (record { event = event.At p a; answer = given })
move_unseen p q a given h = each_move (λ b. IsUnseen q (record { event = event.At p b; answer = given }))
    (record { starts_not = refl; exits_not = refl; begins_not = refl; ends_not = refl; enters_not = λ s. refl; misses_not = λ s. refl })
    (record { starts_not = refl; exits_not = refl; begins_not = refl; ends_not = refl; enters_not = λ s. refl; misses_not = λ s. refl })
    (record { starts_not = refl; exits_not = refl; begins_not = refl; ends_not = refl; enters_not = λ s. refl; misses_not = λ s. refl })
    (record { starts_not = refl; exits_not = refl; begins_not = refl; ends_not = refl; enters_not = λ s. refl; misses_not = λ s. refl })
    (record { starts_not = refl; exits_not = refl; begins_not = refl; ends_not = refl; enters_not = λ s. refl; misses_not = λ s. refl })
    (record { starts_not = refl; exits_not = refl; begins_not = refl; ends_not = refl; enters_not = λ s. refl; misses_not = λ s. refl })
    (record { starts_not = refl; exits_not = refl; begins_not = refl; ends_not = refl; enters_not = λ s. refl; misses_not = λ s. refl })
    (record { starts_not = refl; exits_not = refl; begins_not = refl; ends_not = refl; enters_not = λ s. refl; misses_not = λ s. refl })
    a h
