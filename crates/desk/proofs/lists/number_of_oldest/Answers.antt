use Rattle.std.proofs.Common.{◌≡◌, List, Some, refl, sym, ap}
use Rattle.std.specs.Prelude.{slice_get}
use Rattle.std.proofs.lemmas.Option.{slice_get_read}
use Rattle.desk.specs.declared.entries.Opened.{Opened}
use Rattle.desk.specs.Fields.{current_of}
use Rattle.desk.proofs.OpenLists.{oldest_is}
use Rattle.desk.proofs.lists.number_of_oldest.Goals as goal

pub returns : goal.returns
returns g c =
    let os : List (Opened g.row.J.Denot) = c.args.opened.now in
    let o = c.index-opened-0.result in
    let here : slice_get os 0 ≡ Some o = slice_get_read os _ 0 o refl c.requires c.index-opened-0.is in
    (current_of o, oldest_is os o here, ap (λ (x : Opened g.row.J.Denot). x.number) (sym c.index-opened-0.is))
