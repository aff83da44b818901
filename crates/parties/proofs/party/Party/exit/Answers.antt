use Rattle.parties.proofs.Roles.{exit_on}
use Rattle.parties.proofs.party.Party.exit.Goals as goal

pub returns-in-0 : goal.returns-in-0
returns-in-0 g c =
    let gone = c.in_ok-told-in-Runs.ensures.ok c.in-0.is in
    exit_on c.args.self.now c.vacate.new.self c.enter_exit.new.self gone.1 gone.0 c.enter_exit.result gone.2 gone.3 gone.4 c.enter_exit.ensures
