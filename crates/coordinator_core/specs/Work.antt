-- The work on the open requests, as its owner keeps it between two calls.
use Rattle.std.specs.Prelude.{◌≡◌, ◌+◌, ◌-◌, ◌^◌, ℕ, Bool, true, false, List, [], ◌∷◌, Option, Some, None, min}
use Rattle.operations.specs.declared.Kind.{Kind}
use Rattle.operations.specs.declared.Kind.TheVariants as kind
use Rattle.desk.specs.declared.entries.Live.{Live}
use Rattle.desk.specs.Fields.{DeskSeen, at}
use Rattle.desk.specs.Machine.{is_legal}
use Rattle.desk.specs.Targets.{untold}
use Rattle.coordinator_core.specs.Telling.{kind_told}
use Rattle.coordinator_core.specs.declared.drive.Callback.{Callback}
use Rattle.coordinator_core.specs.declared.drive.Stage.{Stage}
use Rattle.coordinator_core.specs.declared.drive.Stage.TheVariants as stage
use Rattle.coordinator_core.specs.declared.listing.PendingOp.{PendingOp}

-- The history of the desk is legal.
abbrev pub IsLegal : DeskSeen → Type 0
IsLegal d = is_legal d.slots d.methods d.book.history ≡ true

-- At a desk with a legal history the operation was pending for the thread, whose place was last armed with `last`.
abbrev pub WasPending : PendingOp → Type 0
WasPending p = (d : DeskSeen) × IsLegal d × (untold (at d) p.name p.last ≡ Some p.number) × (kind_told (at d) ≡ p.target.kind)

abbrev pub ArePending : List PendingOp → Type 0
ArePending [] = Unit {0}
ArePending (p ∷ ps) = WasPending p × ArePending ps

-- The next step; the list, and whether more is pending; the due threads; the index in the list or in the due threads;
-- how many of these haven't come in this pass, and how many are awaited; and the host's next callback.
pub record DriveSeen : Type 0 where
  pub stage : Stage
  pub pending : List PendingOp
  pub has_more : Bool
  pub due : List Live
  pub at : ℕ
  pub late : ℕ
  pub awaited : ℕ
  pub called : Option Callback

-- No work.
abbrev pub idle : DriveSeen
idle = record {
  stage = stage.Begin;
  pending = [];
  has_more = false;
  due = [];
  at = 0;
  late = 0;
  awaited = 0;
  called = None;
}

-- One more, at most the greatest `u64`.
abbrev pub counted : ℕ → ℕ
counted n = min (n + 1) (2 ^ 64 - 1)

-- How many threads the next pass awaits: all `due` ones, or as many as hadn't come in the last pass.
abbrev pub awaited_behind : (of_oldest : Bool) → (late due : ℕ) → ℕ
awaited_behind true late due = due
awaited_behind false late due = late

-- The step after all listed threads are armed.
abbrev pub stage_behind : (has_more : Bool) → Kind → Stage
stage_behind true k = stage.Begin
stage_behind false kind.Handshake = stage.Serve
stage_behind false kind.Census = stage.Hold
