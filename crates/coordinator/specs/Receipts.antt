-- Receipts of bodies that went back into their berths.
use Rattle.std.specs.Prelude.{◌≡◌, ℕ}
use Rattle.std.specs.List.{remove}
use Rattle.bodies.specs.Bodies.{BodyView}
use Rattle.berths.specs.Berths.{Moved, moved}
use Rattle.berths.specs.declared.room.BodyAct.TheVariants.{Released}
use Rattle.stopped_threads.specs.Held.{StandsAt}
use Rattle.stopped_threads.specs.Holding.{Holding}

-- The body of the place leaves the held ones. By the receipt it went into its berth unchanged.
abbrev pub Releases : Holding → Holding → ℕ → Moved → Type 0
Releases old new place receipt
    = (index : ℕ) × (body : BodyView) × StandsAt old.held index place body × (new ≡ record old { held = remove old.held index })
    × (receipt ≡ moved body (Released old.operated))
