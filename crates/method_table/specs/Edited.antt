-- The codes after an edit.
use Rattle.std.specs.Prelude.{List}
use Rattle.method_table.specs.declared.Code.{Code}
use Rattle.method_table.specs.declared.history.Edit.{Edit}
use Rattle.method_table.specs.declared.history.Edit.TheVariants.{Install, Become}
use Rattle.method_table.specs.Codes.{with_code, with_state}

abbrev pub edited : List Code → Edit → List Code
edited codes (Install method slot) = with_code codes method slot
edited codes (Become serial state) = with_state codes serial state
