-- `layout::check` meets its contract: bytes that are no 24 are refused, and others by `check_regions`.
use Rattle.std.proofs.Common.{subst, sym}
use Rattle.refusal.specs.declared.Refusal.{Refusal}
use Rattle.std.specs.Prelude.{Err}
use Rattle.layout.specs.Promises.{Checks}
use Rattle.layout.proofs.Vetted.{no_layout}
use Rattle.layout.proofs.check.Goals as goal

pub returns-in_default : goal.returns-in_default
returns-in_default c =
    subst (λ (x : Refusal). Checks c.args.layout.now (Err x)) (sym c.into.ensures)
    (no_layout c.args.layout.now (c.in_default.ensures.1))
