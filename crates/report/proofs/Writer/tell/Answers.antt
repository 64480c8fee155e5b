-- `report::Writer::tell` meets its contract. Assumes nothing.
use Rattle.report.specs.Text.{judged_text}
use Rattle.report.proofs.Lay.{◌then◌}
use Rattle.report.proofs.Writer.tell.Goals as goal

pub returns-in-Ok : goal.returns-in-Ok
unfolding judged_text
returns-in-Ok c = rw c.in-Ok.is (c.bytes.ensures then c.lines.ensures then c.totals.ensures)
