use Rattle.std.proofs.Common.{sym, subst, rules}
use Rattle.desk.specs.Fields.{at}
use Rattle.desk.specs.Refusals.{AreSettled, MayOperate, operate_refused}
use Rattle.bodies.specs.Census.{IsCensus}
use Rattle.stopped_threads.proofs.Published.{published_settled, published_census, not_refused}
use Rattle.stopped_threads.proofs.operating.operate_over.Goals as goal

pub operate-requires : goal.operate-requires
operate-requires g c = record {
  settled = subst AreSettled (sym c.as_slice-3.ensures.value) (published_settled _ _ c.publish_all.ensures);
  counted = subst (λ bs. IsCensus bs c.in-Ok.list.items) (sym c.as_slice-3.ensures.value) (published_census _ _ c.in-Ok.list.items c.publish_all.ensures (subst (λ bs. IsCensus bs c.in-Ok.list.items) c.as_slice-2.ensures.value c.in-Ok.ensures));
}

pub unreachable-requires : goal.unreachable-requires
unreachable-requires g c =
    let s = at c.args.desk.now in
    let may : MayOperate s c.as_slice.result.now = search rules in
    let no = subst (λ bs. operate_refused s bs c.in-Err.field-0) c.as_slice-3.ensures.value c.in-Err.ensures.err.1 in
    let k = not_refused s _ _ c.in-Err.field-0 c.publish_all.ensures (subst (MayOperate s) c.as_slice.ensures.value may) no in cc

pub returns-clause-counted : goal.returns-clause-counted
returns-clause-counted g c = published_census _ _ c.in-Ok.list.items c.publish_all.ensures (subst (λ bs. IsCensus bs c.in-Ok.list.items) c.as_slice-2.ensures.value c.in-Ok.ensures)
