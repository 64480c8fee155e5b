-- A run: the steps of a trace one after another, by number. Assumes nothing.
use Rattle.std.specs.Prelude.{List, [], ◌++◌, ℕ, zero, suc, ◌+◌, ◌*◌, drop}
use Rattle.notions.specs.Choice.{pick}
use Rattle.layout.specs.declared.Layout.{Layout}
use Rattle.steps.specs.declared.Step.{Step}
use Rattle.rules.specs.declared.Monitor.{Monitor}
use Rattle.rules.specs.Rules.{start}
use Rattle.effects.specs.declared.StepAnswer.{StepAnswer}
use Rattle.effects.specs.Effects.{bytes}
use Rattle.traces.specs.Traces.{answer_size, count, steps}
use Rattle.monitor.specs.declared.Totals.{Totals}
use Rattle.monitor.specs.Decisions.{resets, next, decided_answer, decided_memory}

-- what stands between two steps
pub record State : Type 0 where
  pub monitor : Monitor
  pub memory : List ℕ

-- a trace begins from the monitor's start
abbrev pub begin : List ℕ → State
begin memory = record { monitor = start; memory = memory }

abbrev pub turn : Layout → Step → State → State
turn l s x = record { monitor = next l x.monitor s; memory = decided_memory l x.monitor s x.memory }

-- what stands before step n of a run from x
unfoldable pub before : Layout → (ℕ → Step) → State → ℕ → State
before l t x zero = x
before l t x (suc n) = turn l (t n) (before l t x n)

-- what step n answers
abbrev pub said : Layout → (ℕ → Step) → State → ℕ → StepAnswer
said l t x n = decided_answer l (before l t x n).monitor (t n) (before l t x n).memory

-- the answer bytes of the first n steps, and how many of these reset
unfoldable pub answers : Layout → (ℕ → Step) → State → ℕ → List ℕ
answers l t x zero = []
answers l t x (suc n) = answers l t x n ++ bytes (said l t x n)

unfoldable pub resetting : Layout → (ℕ → Step) → State → ℕ → ℕ
resetting l t x zero = 0
resetting l t x (suc n) = resetting l t x n + pick (resets l (before l t x n).monitor (t n)) 1 0

-- what a trace's bytes, judged from the monitor's start, leave in the memory
abbrev pub memory_after : Layout → List ℕ → List ℕ → List ℕ
memory_after l b memory = (before l (steps b) (begin memory) (count b)).memory

-- and in the answer room: bytes behind the answers stay
abbrev pub room_after : Layout → List ℕ → List ℕ → List ℕ → List ℕ
room_after l b memory room = answers l (steps b) (begin memory) (count b) ++ drop (answer_size * count b) room

-- the number of steps and of those that reset
abbrev pub totals : Layout → List ℕ → List ℕ → Totals
totals l b memory = record { steps = count b; resets = resetting l (steps b) (begin memory) (count b) }
