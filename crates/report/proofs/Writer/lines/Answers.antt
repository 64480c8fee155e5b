-- `report::Writer::lines` meets its contract. Assumes nothing.
use Rattle.report.specs.Text.{lines}
use Rattle.report.proofs.Lay.{nothing, line_more}
use Rattle.report.proofs.Writer.lines.Goals as goal

pub loop-k-init : goal.loop-k-init
unfolding lines
loop-k-init c = nothing _

pub loop-k-preserved : goal.loop-k-preserved
loop-k-preserved c = line_more _ _ _ c.answer_at.ensures c.loop-k.invariant c.line.ensures
