-- `report::Writer::lines` meets its contract. Assumes nothing.
use Rattle.report.specs.Text.{lines}
use Rattle.report.specs.Inner.{Wrote, answer_at}
use Rattle.report.proofs.Writer.lines.Given as goal

abbrev pub invariant-loop-k : goal.invariant-loop-k
invariant-loop-k l = Wrote l.initial.self l.self (lines (answer_at l.room) l.k)
