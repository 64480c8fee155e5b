-- `report::Writer::line` meets its contract. Assumes nothing.
use mathlib.Core.Bool.{Bool, true, false}
use mathlib.Core.Path.{◌≡◌, refl, subst, ap, ◌∙◌}
use Prim.Native.Nat.{ℕ}
use Rattle.std.specs.Bool.{then_some}
use Rattle.report.specs.Text as T
use Rattle.report.specs.Text.{line}
use Rattle.report.specs.Inner.{Wrote, shown}
use Rattle.report.proofs.Lay.{◌then◌}
use Rattle.report.proofs.Writer.line.Goals as goal

-- a byte where it is exposed
exposed : (t : Bool) (b : ℕ) → shown (then_some t b) ≡ T.shown t b
exposed true b = refl
exposed false b = refl

pub returns : goal.returns
unfolding line
returns c =
    let cpu = subst (Wrote _ _) (ap shown c.then_some.ensures ∙ exposed _ _) c.shown.ensures in
    let dma = subst (Wrote _ _) (ap shown c.then_some-2.ensures ∙ exposed _ _) c.shown-2.ensures in
    c.decimal.ensures then c.bytes.ensures then c.decimal-2.ensures then c.bytes-2.ensures then cpu then c.bytes-3.ensures
    then dma then c.bytes-4.ensures
