-- The promise settles the answer and every lent byte. Assumes nothing.
use Rattle.std.specs.Prelude.{◌≡◌, List, ℕ, Result}
use Rattle.std.proofs.Common.{sym, ◌∙◌}
use Rattle.monitor.proofs.Settled.{traced_row_settled}
use Rattle.runfile.specs.Promises.{Judges}
use Rattle.monitor.specs.declared.Totals.{Totals}
use Rattle.refusal.specs.declared.Refusal.{Refusal}

pub judges_settled : (file memory room memory₁ room₁ memory₂ room₂ : List ℕ) (r q : Result Totals Refusal)
    → Judges file memory room memory₁ room₁ r → Judges file memory room memory₂ room₂ q
    → (r ≡ q) × (memory₁ ≡ memory₂) × (room₁ ≡ room₂)
judges_settled file memory room memory₁ room₁ memory₂ room₂ r q p p' = (
  traced_row_settled r q (p.answered ∙ sym p'.answered),
  p.memory_left ∙ sym p'.memory_left,
  p.room_left ∙ sym p'.room_left,
)
