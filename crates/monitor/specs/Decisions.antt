-- What is decided at a step: whether it resets, what the monitor then remembers, and so what it answers and stores. Assumes nothing.
use Rattle.std.specs.Prelude.{Bool, List, ℕ}
use Rattle.layout.specs.declared.Layout.{Layout}
use Rattle.steps.specs.declared.Step.{Step}
use Rattle.rules.specs.declared.Monitor.{Monitor}
use Rattle.rules.specs.Rules.{cause}
use Rattle.effects.specs.declared.StepAnswer.{StepAnswer}
use Rattle.effects.specs.Effects.{is_reset, answer, written}

abbrev pub resets : Layout → Monitor → Step → Bool
resets l m s = is_reset (cause l m s)

-- after each step, held is "this step reset" and the remembered PC is this step's
unfoldable pub next : Layout → Monitor → Step → Monitor
next l m s = record { held = resets l m s; lastpc = s.pc }

-- what the step then answers, and what it leaves in the memory
abbrev pub decided_answer : Layout → Monitor → Step → List ℕ → StepAnswer
decided_answer l m s memory = answer l (cause l m s) s memory

abbrev pub decided_memory : Layout → Monitor → Step → List ℕ → List ℕ
decided_memory l m s memory = written l (cause l m s) s memory
