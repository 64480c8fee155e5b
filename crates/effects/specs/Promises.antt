-- What `act` promises, for all inputs. Assumes nothing.
use Rattle.std.specs.Prelude.{◌≡◌, List, ℕ}
use Rattle.layout.specs.declared.Layout.{Layout}
use Rattle.steps.specs.declared.Step.{Step}
use Rattle.effects.specs.declared.StepAnswer.{StepAnswer}
use Rattle.effects.specs.Effects.{answer, written}

-- `act`, at a step whose cause is c: memory is lent, and memory' is what stands there afterwards
pub record Acts (l : Layout) (c : ℕ) (s : Step) (memory memory' : List ℕ) (r : StepAnswer) : Type 0 where
  pub answered : r ≡ answer l c s memory
  pub memory_left : memory' ≡ written l c s memory
