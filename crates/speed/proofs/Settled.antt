-- The promises that are not equations settle the answer and every lent byte. Assumes nothing.
use Rattle.std.specs.Prelude.{◌≡◌, List, ℕ}
use Rattle.std.proofs.Common.{sym, ◌∙◌}
use Rattle.speed.specs.Promises.{NumbersAttest, NumbersTrace, NumbersJudge}

pub numbers_attest_settled : (memory layout memory₁ memory₂ : List ℕ) (r q : ℕ)
    → NumbersAttest memory layout memory₁ r → NumbersAttest memory layout memory₂ q → (r ≡ q) × (memory₁ ≡ memory₂)
numbers_attest_settled memory layout memory₁ memory₂ r q p p' =
    (p.answered ∙ sym p'.answered, p.memory_left ∙ sym p'.memory_left)

pub numbers_trace_settled : (memory layout trace room memory₁ room₁ memory₂ room₂ : List ℕ) (r q : ℕ)
    → NumbersTrace memory layout trace room memory₁ room₁ r → NumbersTrace memory layout trace room memory₂ room₂ q
    → (r ≡ q) × (memory₁ ≡ memory₂) × (room₁ ≡ room₂)
numbers_trace_settled memory layout trace room memory₁ room₁ memory₂ room₂ r q p p' = (
  p.answered ∙ sym p'.answered,
  p.memory_left ∙ sym p'.memory_left,
  p.room_left ∙ sym p'.room_left,
)

pub numbers_judge_settled : (file memory room memory₁ room₁ memory₂ room₂ : List ℕ) (r q : ℕ)
    → NumbersJudge file memory room memory₁ room₁ r → NumbersJudge file memory room memory₂ room₂ q
    → (r ≡ q) × (memory₁ ≡ memory₂) × (room₁ ≡ room₂)
numbers_judge_settled file memory room memory₁ room₁ memory₂ room₂ r q p p' = (
  p.answered ∙ sym p'.answered,
  p.memory_left ∙ sym p'.memory_left,
  p.room_left ∙ sym p'.room_left,
)
