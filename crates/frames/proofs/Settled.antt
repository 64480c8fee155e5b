-- The promise that is not an equation settles its result: two results that meet it are equal. Assumes nothing.
use Rattle.std.specs.Prelude.{◌≡◌, List, ℕ}
use Rattle.std.proofs.Common.{sym, ◌∙◌}
use Rattle.frames.specs.Promises.{Copies}

pub copies_settled : (b : List ℕ) (i : ℕ) (room room₁ room₂ : List ℕ) (r q : ℕ)
    → Copies b i room room₁ r → Copies b i room room₂ q → (r ≡ q) × (room₁ ≡ room₂)
copies_settled b i room room₁ room₂ r q p p' = (p.answered ∙ sym p'.answered, p.room_left ∙ sym p'.room_left)
