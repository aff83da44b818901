use Rattle.std.proofs.Common.{◌∙◌, Some, is_some, ap}
use Rattle.stopped_threads.specs.Holding.{Holding}
use Rattle.parties.specs.Acted.{party_as}
use Rattle.parties.specs.declared.party.Role.TheVariants as role
use Rattle.safepoint.proofs.handle.begun.Goals as goal

pub returns-in-Ok : goal.returns-in-Ok
returns-in-Ok g c =
    let is = c.of.ensures ∙ ap Some (c.in-Ok.ensures.ok ∙ c.coordinator-party.ensures) in
    (ap is_some is, λ made. is ∙ ap (λ (h : Holding). Some (party_as (role.Coordinates h))) c.requires)
