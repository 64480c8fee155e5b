-- `report::Writer::refusal` meets its contract. Assumes nothing.
use Rattle.std.proofs.Common.{◌≡◌, ◌∙◌}
use Rattle.refusal.specs.Numbers.{number}
use Rattle.report.specs.Text.{refused_line}
use Rattle.report.proofs.Lay.{◌then◌}
use Rattle.report.proofs.Writer.refusal.Goals as goal

pub returns : goal.returns
unfolding refused_line
returns c =
    let e : c.from.result ≡ number c.args.r.reason = c.from.ensures ∙ c.number.ensures in
    rw (← e)
    (c.bytes.ensures then c.decimal.ensures then c.bytes-2.ensures then c.decimal-2.ensures then c.bytes-3.ensures)
