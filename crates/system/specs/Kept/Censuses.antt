-- When the system's threads allow a census, and the answer of the index.
use Rattle.std.specs.Prelude.{Bool, true, not, ◌&&◌, is_none, List, [], ◌∷◌, map, Option, Some, None, if◌then◌else◌, ◌≡◌, ◌≤◌, ℕ}
use Rattle.std.specs.List.{list_all, list_any}
use Rattle.std.specs.List.Sorted.{IsPermutation}
use Rattle.frames.specs.ImageView.{next_code}
use Rattle.operations.specs.Requests.{is_census}
use Rattle.activation_index.specs.declared.Entry.{Entry}
use Rattle.activation_index.specs.Cells.{counted}
use Rattle.activation_index.specs.Pairs.{of_serial, IsRisingPairs}
use Rattle.system.specs.declared.answers.CodeCount.{CodeCount}
use Rattle.system.specs.declared.answers.Refusal.{Refusal}
use Rattle.system.specs.declared.answers.Refusal.TheVariants.{NothingOpen, NotOf, AlreadyDone, NotAllHeld, Publishing, Unpublished}
use Rattle.system.specs.declared.requests.Open.{Open}
use Rattle.system.specs.declared.thread.Thread.{Thread as Kept}

-- The thread passes the test, or the place is vacant.
abbrev pub holds_at : (Kept → Bool) → Option Kept → Bool
holds_at test None = true
holds_at test (Some kept) = test kept

abbrev pub is_held_kept : Kept → Bool
is_held_kept kept = kept.held

abbrev pub is_quiet_kept : Kept → Bool
is_quiet_kept kept = not kept.image.publishing

-- No publication is open, and every frame is counted.
abbrev pub is_settled_kept : Kept → Bool
is_settled_kept kept = not kept.image.publishing && is_none (next_code kept.image)

-- The first test of the threads that fails.
abbrev pub census_refusal : List (Option Kept) → Option Refusal
census_refusal kepts =
    if not (list_all (holds_at is_held_kept) kepts) then Some NotAllHeld
    else if not (list_all (holds_at is_quiet_kept) kepts) then Some Publishing
    else if not (list_all (holds_at is_settled_kept) kepts) then Some Unpublished
    else None

-- The first test that fails, for the oldest open operation.
abbrev pub operate_refusal : List Open → List (Option Kept) → Option Refusal
operate_refusal [] kepts = Some NothingOpen
operate_refusal (open_ ∷ opens) kepts =
    if not (is_census open_.request) then Some NotOf
    else if open_.operated then Some AlreadyDone
    else census_refusal kepts

-- One of the open operations is a census.
abbrev pub has_census : List Open → Bool
has_census opens = list_any (λ open_. is_census open_.request) opens

-- The open operations after the oldest is operated.
abbrev pub operated : List Open → List Open
operated [] = []
operated (open_ ∷ opens) = record open_ { operated = true } ∷ opens

-- A serial and its count as an item of the census.
abbrev pub named : ℕ × ℕ → CodeCount
named pair = record { serial = pair.0; count = pair.1 }

-- The answer of a census: the cells with a count above 0. They are in rising serial if no serial has two such cells.
pub record IsCensus (cells : List Entry) (counts : List CodeCount) : Type 0 where
  pub pairs : List (ℕ × ℕ)
  pub counts_are : counts ≡ map named pairs
  pub same : IsPermutation (counted cells) pairs
  pub rising : ((serial : ℕ) → of_serial serial (counted cells) ≤ 1) → IsRisingPairs 0 pairs
