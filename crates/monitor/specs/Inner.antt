-- What the contract of this crate's own `run_step` says; no other crate needs it. Assumes nothing.
use Rattle.std.specs.Prelude.{◌≡◌, List, ◌++◌, ℕ, ◌+◌, ◌*◌, take, drop}
use Rattle.layout.specs.declared.Layout.{Layout}
use Rattle.steps.specs.declared.Step.{Step}
use Rattle.rules.specs.declared.Monitor.{Monitor}
use Rattle.effects.specs.Effects.{bytes}
use Rattle.traces.specs.Traces.{answer_size}
use Rattle.monitor.specs.declared.Outcome.{Outcome}
use Rattle.monitor.specs.Decisions.{next, decided_answer, decided_memory}

-- n bytes of a list replaced by others, from a place on
abbrev pub replaced : List ℕ → ℕ → ℕ → List ℕ → List ℕ
replaced room at n v = take at room ++ v ++ drop (at + n) room

-- step i, which is s, from what the monitor m remembers; memory and room are lent, and memory' and room' are what stands there afterwards
pub record RunsStep (l : Layout) (m : Monitor) (s : Step) (i : ℕ) (memory room memory' room' : List ℕ) (r : Outcome)
    : Type 0 where
  pub answered : r.answer ≡ decided_answer l m s memory
  pub remembered : r.monitor ≡ next l m s
  pub memory_left : memory' ≡ decided_memory l m s memory
  pub room_left : room' ≡ replaced room (answer_size * i) answer_size (bytes r.answer)
