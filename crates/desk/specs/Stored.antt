-- How a proof encodes a list of entries.
use Rattle.std.specs.Prelude.{List}
use Rattle.std.specs.Coded.{Coded, coded_list}
use Rattle.desk.specs.declared.entries.Entry.{Entry}
use Rattle.desk.specs.contracts.entries.Entry.{the_row}

abbrev pub entries_code : Coded (List Entry)
entries_code = coded_list the_row.coded
