-- A thread and its published counts.
use Rattle.std.specs.Prelude.{ℕ, Bool, not, ◌&&◌, ◌==◌, List, [], ◌++◌, Option, is_some, is_none, unwrap_or, filter, if◌then◌else◌}
use Rattle.std.specs.List.{list_any}
use Rattle.frames.specs.declared.CodeId.{CodeId}
use Rattle.frames.specs.declared.Frame.{Frame}
use Rattle.thread_state.specs.declared.State.{State}
use Rattle.frames.specs.Stack.{same_code, act, codes_of}
use Rattle.frames.specs.Least.{least}

-- A thread. `shown` is the stack at the Begin of the last ended publication, and `published` whether one ended.
-- `changed` has the codes that changed in the open publication, if one is open.
pub record Thread : Type 0 where
  pub name : ℕ
  pub state : State
  pub held : Bool
  pub published : Bool
  pub stack : List Frame
  pub shown : List Frame
  pub changed : Option (List CodeId)

-- A publication is open.
abbrev pub is_publishing : Thread → Bool
is_publishing t = is_some t.changed

-- The codes that changed in the open publication, if any.
abbrev pub changed_codes : Thread → List CodeId
changed_codes t = unwrap_or t.changed []

-- The code changed in the open publication.
abbrev pub has_changed : Thread → CodeId → Bool
has_changed t code = list_any (λ other. same_code other code) (changed_codes t)

-- The code is left: it hasn't changed yet, and its counts in the stack and in the shown stack differ.
abbrev pub is_left : Thread → CodeId → Bool
is_left t code = not (has_changed t code) && not (act code t.stack == act code t.shown)

-- The least code that is left.
abbrev pub next_change : Thread → Option CodeId
next_change t = least (filter (is_left t) (codes_of t.stack ++ codes_of t.shown))

-- Settled: no publication is open, and every code has the same count in the stack as in the shown stack.
abbrev pub is_settled : Thread → Bool
is_settled t = not (is_publishing t) && is_none (next_change t)

-- A code's published count: in the stack if the code changed in the open publication, otherwise in the shown stack.
abbrev pub part : CodeId → Thread → ℕ
part code t = if has_changed t code then act code t.stack else act code t.shown
