-- The promise of `attest` settles the answer and every byte of the memory. Assumes nothing.
use Rattle.std.specs.Prelude.{◌≡◌, List, ℕ}
use Rattle.std.proofs.Common.{sym, ◌∙◌}
use Rattle.refusal.proofs.Settled.{row_settled}
use Rattle.board.specs.Promises.{Attests}
use Rattle.refusal.specs.Answers.{Answer}

pub attests_settled : (memory layout memory₁ memory₂ : List ℕ) (r q : Answer)
    → Attests memory layout memory₁ r → Attests memory layout memory₂ q → (r ≡ q) × (memory₁ ≡ memory₂)
attests_settled memory layout memory₁ memory₂ r q p p' =
    (row_settled r q (p.answered ∙ sym p'.answered), p.memory_left ∙ sym p'.memory_left)
