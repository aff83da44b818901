-- The encoding of a list of codes in ghost state.
use Rattle.std.specs.Prelude.{◌≡◌, ℕ, List, cond, ◌==◌, refl}
use Rattle.std.specs.Coded.{Coded, code_by, coded×, coded_ℕ, coded_list}
use mathlib.Core.Path.{ap}
use Rattle.method_table.specs.declared.Code.{Code}
use Rattle.method_table.specs.declared.CodeState.{CodeState}
use Rattle.method_table.specs.declared.CodeState.TheVariants.{InUse, NotEntrant, Zombie, Freed}

abbrev state_number : CodeState → ℕ
state_number InUse = 0
state_number NotEntrant = 1
state_number Zombie = 2
state_number Freed = 3

abbrev state_at : ℕ → CodeState
state_at n = cond (n == 0) InUse (cond (n == 1) NotEntrant (cond (n == 2) Zombie Freed))

pub state_at-state_number : (state : CodeState) → state_at (state_number state) ≡ state
state_at-state_number InUse = refl
state_at-state_number NotEntrant = refl
state_at-state_number Zombie = refl
state_at-state_number Freed = refl

abbrev Parts : Type 0
Parts = ℕ × (ℕ × (ℕ × ℕ))

abbrev to_parts : Code → Parts
to_parts code = (code.serial, (code.slot, (code.method, state_number code.state)))

abbrev from_parts : Parts → Code
from_parts p = record { serial = p.0; slot = p.1.0; method = p.1.1.0; state = state_at p.1.1.1 }

pub from_parts-to_parts : (code : Code) → from_parts (to_parts code) ≡ code
from_parts-to_parts code = ap (λ state. record code { state = state }) (state_at-state_number code.state)

abbrev pub codes_code : Coded (List Code)
codes_code = coded_list (code_by Parts (coded× coded_ℕ (coded× coded_ℕ (coded× coded_ℕ coded_ℕ))) to_parts from_parts from_parts-to_parts)
