-- Replies of stacks to asks.
use Rattle.std.specs.Prelude.{ℕ, length, List}
use Rattle.frames.specs.declared.Frame.{Frame}
use Rattle.frames.specs.Stack.{serial_count, top_serial_of}
use Rattle.operations.specs.declared.Ask.{Ask}
use Rattle.operations.specs.declared.Ask.TheVariants.{Depth, CountOf, Top}

-- The depth of the stack, the number of frames of a code, or the serial of the top frame's code.
abbrev pub reply : Ask → List Frame → ℕ
reply Depth stack = length stack
reply (CountOf serial) stack = serial_count serial stack
reply Top stack = top_serial_of stack
