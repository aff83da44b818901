-- The least of some codes.
use Rattle.std.specs.Prelude.{List, fold, Option, Some, None, if◌then◌else◌}
use Rattle.frames.specs.declared.CodeId.{CodeId}
use Rattle.frames.specs.Stack.{code_lt}

-- the lesser of two, where there are two
abbrev pub lesser : Option CodeId → CodeId → Option CodeId
lesser None code = Some code
lesser (Some best) code = if code_lt code best then Some code else Some best

-- the least of a list
abbrev pub least : List CodeId → Option CodeId
least codes = fold lesser None codes
