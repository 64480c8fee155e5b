-- `report::Writer::decimal` meets its contract. Assumes nothing.
use mathlib.Core.Path.{subst, ◌∙◌}
use native.Mathlib.Omega.{arith}
use Rattle.report.specs.Inner.{Wrote}
use Rattle.report.proofs.Decimal.{spelled}
use Rattle.report.proofs.Writer.decimal.Goals as goal

pub returns : goal.returns
returns c =
    let d = c.decimal-k in
    subst (Wrote _ _) (d.ensures.digits ∙ spelled _ d.result d.ensures.len (omega arith)) c.bytes.ensures
