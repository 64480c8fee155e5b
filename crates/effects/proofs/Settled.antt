-- The promise settles the answer and every lent byte. Assumes nothing.
use Rattle.std.specs.Prelude.{◌≡◌, List, ℕ}
use Rattle.std.proofs.Common.{sym, ◌∙◌}
use Rattle.layout.specs.declared.Layout.{Layout}
use Rattle.steps.specs.declared.Step.{Step}
use Rattle.effects.specs.declared.StepAnswer.{StepAnswer}
use Rattle.effects.specs.Promises.{Acts}

pub acts_settled : (l : Layout) (c : ℕ) (s : Step) (memory memory₁ memory₂ : List ℕ) (r q : StepAnswer)
    → Acts l c s memory memory₁ r → Acts l c s memory memory₂ q → (r ≡ q) × (memory₁ ≡ memory₂)
acts_settled l c s memory memory₁ memory₂ r q p p' =
    (p.answered ∙ sym p'.answered, p.memory_left ∙ sym p'.memory_left)
