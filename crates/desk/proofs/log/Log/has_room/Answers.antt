use Rattle.std.proofs.Common.{◌≡◌, ◌-◌, ◌∙◌, length, sym, ap, subst, arith}
use Rattle.desk.specs.Room.{has_room, entries_kept}
use Rattle.desk.specs.Replies.{Logged}
use Rattle.desk.proofs.log.Log.has_room.Goals as goal

pub returns : goal.returns
returns g c =
    let i = c.self.inside in let less = c.self.invariant.0 in
    let kept : length i.past.entries - (length i.past.entries - i.count) ≡ i.count = omega arith in
    subst (λ (d : Logged). c.fits.result ≡ has_room (entries_kept d.book) d.book.reserved c.args.more) c.self.view_is
    (c.fits.ensures ∙ ap (λ k. has_room k i.reserved c.args.more) (sym kept))
