-- The promise settles the answer and every lent byte. Assumes nothing.
use Rattle.std.specs.Prelude.{◌≡◌, List, ℕ}
use Rattle.std.proofs.Common.{sym, ◌∙◌}
use Rattle.report.specs.Promises.{Writes}

pub writes_settled : (file memory room out memory₁ room₁ out₁ memory₂ room₂ out₂ : List ℕ) (r q : ℕ)
    → Writes file memory room out memory₁ room₁ out₁ r → Writes file memory room out memory₂ room₂ out₂ q
    → (r ≡ q) × (memory₁ ≡ memory₂) × (room₁ ≡ room₂) × (out₁ ≡ out₂)
writes_settled file memory room out memory₁ room₁ out₁ memory₂ room₂ out₂ r q p p' = (
  p.answered ∙ sym p'.answered,
  p.memory_left ∙ sym p'.memory_left,
  p.room_left ∙ sym p'.room_left,
  p.out_left ∙ sym p'.out_left,
)
