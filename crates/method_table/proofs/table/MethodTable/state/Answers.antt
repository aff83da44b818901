-- A serial that was given out and has no unfreed code is a freed code's.
use Rattle.std.proofs.Common.{◌≡◌, None, ap, sym, inl, inr, refl, arith}
use Rattle.method_table.specs.Codes.{unfreed}
use Rattle.method_table.specs.TableView.{TableView}
use Rattle.method_table.proofs.KeptLemmas.{never_given, given, state_found, state_freed}
use Rattle.method_table.proofs.table.MethodTable.state.Goals as goal

pub returns-then-serial-eq0 : goal.returns-then-serial-eq0
returns-then-serial-eq0 c =
    let codes : c.self.inside.history.codes ≡ c.args.self.now.codes = ap (λ (v : TableView). v.codes) c.self.view_is in
    rw (← codes) (rw (never_given _ _ _ _ _ _ _ c.self.invariant c.args.serial (inl c.if-serial-eq0.true)) refl)

pub returns-then-serial-self : goal.returns-then-serial-self
returns-then-serial-self c =
    let codes : c.self.inside.history.codes ≡ c.args.self.now.codes = ap (λ (v : TableView). v.codes) c.self.view_is in
    rw (← codes) (rw (never_given _ _ _ _ _ _ _ c.self.invariant c.args.serial (inr c.if-serial-self.true)) refl)

pub returns-in_default : goal.returns-in_default
returns-in_default c =
    let codes : c.self.inside.history.codes ≡ c.args.self.now.codes = ap (λ (v : TableView). v.codes) c.self.view_is in
    let none : unfreed c.args.self.now.codes c.args.serial ≡ None = sym c.in_default.ensures.value in
    rw (← codes) (state_freed _ _ _ _ _ _ _ c.self.invariant c.args.serial (rw codes none) (given _ _ _ _ _ _ _ c.self.invariant c.args.serial (grind arith) c.if-serial-self.false))

pub returns : goal.returns
returns c =
    let codes : c.self.inside.history.codes ≡ c.args.self.now.codes = ap (λ (v : TableView). v.codes) c.self.view_is in
    rw (← codes) (state_found _ _ _ _ _ _ _ c.self.invariant c.args.serial c.in-Some.code (rw codes (sym c.in-Some.ensures.value)))
