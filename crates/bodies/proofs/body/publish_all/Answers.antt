use Rattle.std.proofs.Common.{refl}
use Rattle.bodies.proofs.Keeping.{counted_fits, closed_made}
use Rattle.bodies.proofs.body.publish_all.Goals as goal

pub returns : goal.returns
returns c =
    let made = c.count_changes.ensures.made in let end = c.in-Ok-end.ensures in record {
      board_stays = c.count_changes.ensures.board;
      fit = counted_fits _ c.count_changes.new.image c.end.new.self c.count_changes.new.seat.seen c.count_changes.new.seat.seen c.count_changes.ensures.fit end.ok.0 end.counted end.ok.2 refl;
      changes = made.0;
      made = closed_made _ c.begin_keeping.new.self c.count_changes.new.image c.end.new.self _ _ made.0 c.in-Ok.ensures.ok made.1 c.requires.closed end.ok.0 end.counted (end.ok.1, end.ok.2);
      settled = (end.ok.1, end.ok.2);
    }
