-- The view of a run in contracts.
use Rattle.std.specs.Prelude.{List, map}
use Rattle.run_picture.specs.declared.marks.Mark.{Mark}
use Rattle.run_picture.specs.declared.run.Run.{Run}
use Rattle.run_picture.specs.Told.{Told, Shown, Seen}

abbrev pub told_of : Mark → Told
told_of mark = record { outcome = mark.outcome; shape = mark.shape; title = mark.title.items }

abbrev pub shown_of : Mark → Shown
shown_of mark = record { line = mark.line; told = told_of mark }

abbrev pub shown_by : List Mark → List Shown
shown_by marks = map shown_of marks

abbrev pub seen : Run → Seen
seen run = record { part = run.part; lines = run.lines; shown = shown_by run.marks.items }
