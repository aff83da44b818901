use Rattle.run_picture.specs.Runs.{seen}
use Rattle.run_picture.proofs.BytesTold.{noted}
use Rattle.run_picture.proofs.reading.Reading.end_line.Goals as goal

pub returns-clause-noted : goal.returns-clause-noted
returns-clause-noted c = noted c.args.self.now.system c.obey.new.system c.args.self.now.held c.as_slice.result.now c.as_slice-2.result.now (seen c.args.self.now.run) (seen c.note.new.self) c.in_ok-command.command c.deed_of-deed.result c.in_ok-reply.reply
    c.as_slice.ensures c.as_slice-2.ensures c.in_ok-command.ensures.command c.deed_of-deed.ensures c.in_ok-reply.ensures.replied
    c.in_ok-note.ensures.part c.in_ok-note.ensures.lines c.in_ok-note.ensures.shown
