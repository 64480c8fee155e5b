-- `report::Writer::hex` meets its contract. Assumes nothing.
use mathlib.Core.Path.{subst, ap, ◌∙◌}
use native.Mathlib.Omega.{arith}
use Rattle.io.specs.Digits.{last_digits}
use Rattle.octets.proofs.Digits.{two_digits}
use Rattle.report.specs.Inner.{Wrote}
use Rattle.report.proofs.Writer.hex.Goals as goal

pub returns : goal.returns
returns c =
    let h = c.hex-k in
    let k = two_digits c.args.b h.result (omega arith) h.ensures.len.0 h.ensures.len.2 in
    subst (Wrote _ _) (h.ensures.digits ∙ ap (λ k. last_digits 16 k c.args.b) k) c.bytes.ensures
