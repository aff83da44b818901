use Rattle.std.proofs.Common.{sym, ap, subst}
use Rattle.thread_list.specs.Steps.{Starting}
use Rattle.parties.specs.Asked.{WasStarted}
use Rattle.parties.specs.Acted.{PartySeen}
use Rattle.parties.specs.declared.party.Role.TheVariants as role
use Rattle.parties.proofs.party.Party.enter_start.Goals as goal

pub returns-clause-ok : goal.returns-clause-ok
returns-clause-ok g c = (
  c.new.result,
  ap (λ (p : PartySeen g.row.N.Denot). record p { role = role.Starts c.new.result }) c.self.view_is,
  subst (λ (e : Starting). WasStarted e.name e.place) (sym c.new.ensures) (c.in_ok-name._receipt, c.in_ok-name.ensures.entered),
)
