use Rattle.std.proofs.Common.{◌∙◌, refl, ap, length}
use Rattle.std.proofs.lemmas.List.{length-replicate}
use Rattle.system.specs.Kept.Records.{new_record}
use Rattle.system.proofs.Runs.{blank_stands}
use Rattle.system.proofs.machine.new_core.Goals as goal

pub returns : goal.returns
returns c = blank_stands _ c.args.places c.args.slots c.args.methods (record {
  places_are = c.in_ok-vacant_places.ensures;
  table_is = c.in_ok-new.ensures;
  records_are = ap length c.in_ok-blank_records.ensures ∙ length-replicate c.args.slots (new_record 0);
  index_is = c.in_ok-new-2.ensures.empty;
  names_are = refl;
  moment_is = refl;
  numbers_are = refl;
  waiting_are = c.new-3.ensures;
  opens_are = c.in_ok-new-3.ensures;
})
