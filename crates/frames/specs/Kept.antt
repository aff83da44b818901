-- Which codes a last one bounds.
use Rattle.std.specs.Prelude.{Bool, false, not, Option, Some, None}
use Rattle.frames.specs.declared.CodeId.{CodeId}
use Rattle.frames.specs.Stack.{code_lt}

-- the code isn't above the last one
abbrev pub upto : Option CodeId → CodeId → Bool
upto None code = false
upto (Some last) code = not (code_lt last code)
