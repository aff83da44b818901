-- What a desk forgets.
use Rattle.std.specs.Prelude.{◌≡◌, length, ◌+◌}
use Rattle.desk.specs.Fields.{DeskSeen, at}
use Rattle.desk.specs.Pending.{least_pending}

-- The desk before and after.
pub record Forgetting : Type 0 where
  pub before : DeskSeen
  pub after : DeskSeen

-- No entry is stored any more, nor a reply of any operation before the first that is open or queued. All else of the desk is
-- unchanged.
pub record Forgets (f : Forgetting) : Type 0 where
  pub history : f.after.book.history ≡ f.before.book.history
  pub reserved : f.after.book.reserved ≡ f.before.book.reserved
  pub entries : f.after.book.gone.entries ≡ length f.before.book.history
  pub operations : f.after.book.gone.operations + 1 ≡ least_pending (at f.before)
  pub slots : f.after.slots ≡ f.before.slots
  pub methods : f.after.methods ≡ f.before.methods
  pub keeper : f.after.keeper ≡ f.before.keeper
  pub jobs : f.after.jobs ≡ f.before.jobs
