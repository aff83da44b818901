use Rattle.std.proofs.Common.{◌∙◌, sym}
use Rattle.model.proofs.Told.{still_none}
use Rattle.model.proofs.face.model_new.Goals as goal

pub returns-in-Err-new : goal.returns-in-Err-new
returns-in-Err-new c = still_none _ _ _ _ (sym c.is_made.ensures ∙ c.if-is_made.false) c.in-Ok.ensures.sized
