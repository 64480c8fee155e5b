-- Nothing is lost: bytes that are read as a step are written back as they were. Assumes nothing.
use Rattle.std.specs.Prelude.{◌≡◌, true, List, ℕ, length}
use Rattle.notions.specs.Bytes.{Bytes}
use Rattle.steps.specs.Steps.{step_of, clean, encode}

-- the 12 bytes of a step with its zero bits and bytes zero are those that the step stands for
abbrev pub StepBack : Type 0
StepBack = (b : List ℕ) → Bytes b → length b ≡ 12 → clean b ≡ true → encode (step_of b) ≡ b
