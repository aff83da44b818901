use Rattle.std.proofs.Common.{sym, refl, ◌∙◌}
use Rattle.board.proofs.Notes.{bit_noted}
use Rattle.board.proofs.note.Note.look.Goals as goal

pub returns-then-past-clause-note : goal.returns-then-past-clause-note
returns-then-past-clause-note c = (refl, λ q h. bit_noted c.args.self.now c.args.place q c.args.found c.requires (sym c.is_past-past.ensures ∙ c.if-past.true))
