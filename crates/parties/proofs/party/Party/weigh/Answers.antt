use Rattle.std.proofs.Common.{rules}
use Rattle.parties.proofs.Roles.{weighs_on}
use Rattle.parties.proofs.party.Party.weigh.Goals as goal

pub returns : goal.returns
returns g c =
    weighs_on g.N.Name.board.places c.args.serial c.args.self.now c.in-Coordinates.field-0 c.in_ok-reclaimed.reclaimed c.told_of.result (search rules) c.told_of.ensures
    c.in_ok-reclaimed.ensures.weighed
