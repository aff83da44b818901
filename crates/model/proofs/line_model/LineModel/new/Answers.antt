-- A new system has the world in which nothing was done.
use Rattle.std.proofs.Common.{[], ap, sym, ◌∙◌}
use Rattle.system.specs.World.{start_world}
use Rattle.system.specs.Stands.{places_of, slots_of}
use Rattle.model.proofs.line_model.LineModel.new.Goals as goal

pub returns-in-Ok-clause-stands : goal.returns-in-Ok-clause-stands
returns-in-Ok-clause-stands c =
    let s = c.in_ok-system.system in let stands = c.in_ok-system.ensures.stands in (
      [],
      stands.0,
      ap (λ p. start_world p c.args.slots c.args.methods) (sym stands.1)
          ∙ ap (λ n. start_world (places_of s) n c.args.methods) (sym stands.2)
          ∙ ap (λ m. start_world (places_of s) (slots_of s) m) (sym stands.3),
    )
