-- `report::Writer::totals` meets its contract. Assumes nothing.
use Rattle.report.specs.Text.{totals_line}
use Rattle.report.proofs.Lay.{◌then◌}
use Rattle.report.proofs.Writer.totals.Goals as goal

pub returns : goal.returns
unfolding totals_line
returns c =
    c.bytes.ensures then c.decimal.ensures then c.bytes-2.ensures then c.decimal-2.ensures then c.bytes-3.ensures
