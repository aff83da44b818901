-- The content of a line's mark.
use Rattle.std.specs.Prelude.{ℕ, List, [], ◌∷◌, ◌++◌, map, Option, None, Some, ◌&&◌, nat_le, ◌==◌, if◌then◌else◌, take, codes}
use Rattle.std.specs.List.{flat_map}
use Rattle.system.specs.declared.answers.Answer.{Answer}
use Rattle.system.specs.declared.answers.Answer.TheVariants as answer
use Rattle.system.specs.declared.events.Act.{Act}
use Rattle.system.specs.declared.events.Act.TheVariants as act
use Rattle.system.specs.declared.events.Event.{Event}
use Rattle.system.specs.declared.events.Event.TheVariants as event
use Rattle.system.specs.World.{World}
use Rattle.replay.specs.declared.engine.Reply.{Reply}
use Rattle.replay.specs.declared.engine.Reply.TheVariants.{BadLine, BadSize, Answered}
use Rattle.replay.specs.declared.grammar.Command.{Command}
use Rattle.replay.specs.declared.grammar.Command.TheVariants.{Size, Do}
use Rattle.replay.specs.Grammar.{command_of}
use Rattle.replay.specs.Printed.{reply_text}
use Rattle.replay.specs.Text.{reply_to, after_line}
use Rattle.run_picture.specs.declared.shapes.Outcome.{Outcome}
use Rattle.run_picture.specs.declared.shapes.Outcome.TheVariants as outcome
use Rattle.run_picture.specs.declared.shapes.Shape.{Shape}
use Rattle.run_picture.specs.declared.shapes.Shape.TheVariants as shape
use Rattle.run_picture.specs.declared.shapes.Deed.{Deed}
use Rattle.run_picture.specs.declared.shapes.Deed.TheVariants as deed
use Rattle.run_picture.specs.Told.{Told}

-- The outcome of a line with this reply.
abbrev pub outcome_of : Reply → Outcome
outcome_of BadLine = outcome.Bad
outcome_of BadSize = outcome.Refused
outcome_of (Answered (answer.Refused why)) = outcome.Refused
outcome_of (Answered other) = outcome.Accepted

-- What the act of a line asks for, where the answer alone doesn't determine its kind.
abbrev pub deed_of_act : Act → Deed
deed_of_act act.Clear = deed.Clear
deed_of_act act.Leave = deed.Leave
deed_of_act other = deed.Other

abbrev pub deed_of_event : Event → Deed
deed_of_event (event.At place act) = deed_of_act act
deed_of_event other = deed.Other

abbrev pub deed_of : Option Command → Deed
deed_of None = deed.Other
deed_of (Some (Size x y z)) = deed.Other
deed_of (Some (Do event)) = deed_of_event event

-- Among the answers that something is done, Clear has a kind of its own.
abbrev pub done_shape : Deed → Shape
done_shape deed.Clear = shape.Cleared
done_shape deed.Leave = shape.Step
done_shape deed.Other = shape.Step

-- Among the answers to go on, Leave has a kind of its own.
abbrev pub go_shape : Deed → Shape
go_shape deed.Clear = shape.Go
go_shape deed.Leave = shape.Left
go_shape deed.Other = shape.Go

-- The kind of an answer.
abbrev pub shape_of_answer : Deed → Answer → Shape
shape_of_answer deed answer.Done = done_shape deed
shape_of_answer deed (answer.Thread n p) = shape.Started
shape_of_answer deed (answer.Exited n) = shape.Exited
shape_of_answer deed (answer.Changed s by) = shape.Change
shape_of_answer deed answer.NoChange = shape.NoChange
shape_of_answer deed answer.Go = go_shape deed
shape_of_answer deed (answer.Stop n) = shape.Stop
shape_of_answer deed answer.Entered = shape.Entered
shape_of_answer deed answer.WrongMethod = shape.WrongMethod
shape_of_answer deed (answer.Reply n) = shape.Callback
shape_of_answer deed (answer.Frames fs) = shape.Stack
shape_of_answer deed (answer.Code s) = shape.Code
shape_of_answer deed answer.NoCode = shape.NoCode
shape_of_answer deed answer.Clear = shape.Covered
shape_of_answer deed answer.Late = shape.Late
shape_of_answer deed (answer.NotLooked p) = shape.NotLooked
shape_of_answer deed (answer.Used n) = shape.Used
shape_of_answer deed answer.Retired = shape.Retired
shape_of_answer deed (answer.Asked n) = shape.Asked
shape_of_answer deed (answer.Opened n k) = shape.Opened
shape_of_answer deed (answer.Closed n) = shape.Closed
shape_of_answer deed answer.Told = shape.Told
shape_of_answer deed answer.Gone = shape.Gone
shape_of_answer deed (answer.Census cs) = shape.Counted
shape_of_answer deed (answer.Count n) = shape.Count
shape_of_answer deed (answer.State s) = shape.State
shape_of_answer deed (answer.Refused why) = shape.Refusal

abbrev pub shape_of : Deed → Reply → Shape
shape_of deed BadLine = shape.BadLine
shape_of deed BadSize = shape.Refusal
shape_of deed (Answered answer) = shape_of_answer deed answer

-- A byte as text of XML: one that isn't printable ASCII is a question mark.
abbrev pub escaped_byte : ℕ → List ℕ
escaped_byte b =
    if b == 38 then codes "&amp;" else
    if b == 60 then codes "&lt;" else
    if b == 62 then codes "&gt;" else
    if nat_le 32 b && nat_le b 126 then b ∷ [] else 63 ∷ []

-- The line, and the line of its answer.
abbrev pub title_of : List ℕ → Reply → List ℕ
title_of line reply = flat_map escaped_byte line ++ 10 ∷ (reply_text reply ++ 10 ∷ [])

abbrev pub told_by : List ℕ → Deed → Reply → Told
told_by line deed reply = record { outcome = outcome_of reply; shape = shape_of deed reply; title = title_of line reply }

-- The content of a line's mark, in the world after the lines before.
abbrev pub told_line : Option World → List ℕ → Told
told_line world line = told_by line (deed_of (command_of line)) (reply_to world (command_of line))

-- The part of a line that matters: 1025 bytes are enough to see that it is too long, which makes it bad.
abbrev pub enough : List ℕ → List ℕ
enough line = take 1025 line

-- The content of each line's mark, in order.
abbrev pub told_lines : Option World → List (List ℕ) → List Told
told_lines world [] = []
told_lines world (line ∷ lines) = told_line world (enough line) ∷ told_lines (after_line world (enough line)) lines
