-- Demand 2, the monitor's part: each reset decision is the one that the rules give for that step and the steps before
-- it. Definitions and claims; the proofs are in proofs/Decisions.antt. Assumes nothing.
use Rattle.std.specs.Prelude.{◌≡◌, true, false, not, List, ℕ, zero, suc, ◌+◌, ◌*◌, ◌<◌, eqb, get_or, Ok}
use Rattle.notions.specs.Choice.{pick}
use Rattle.layout.specs.declared.Layout.{Layout}
use Rattle.layout.specs.Layouts.{layout_of}
use Rattle.steps.specs.declared.Step.{Step}
use Rattle.rules.specs.declared.Monitor.{Monitor}
use Rattle.rules.specs.Rules.{rule15, broken, numbered, rule_numbers, start}
use Rattle.monitor.specs.Decisions.{next}
use Rattle.monitor.specs.declared.Totals.{Totals}
use Rattle.traces.specs.Traces.{answer_size, count, steps}
use Rattle.monitor.specs.Promises.{Steps, Traces}

-- what the monitor remembers before step n: the steps before it settle that
unfoldable pub monitor_before : Layout → (ℕ → Step) → ℕ → Monitor
monitor_before l t zero = start
monitor_before l t (suc n) = next l (monitor_before l t n) (t n)

-- c is the cause that the rules give for the step s where the monitor remembers m
pub record Decides (l : Layout) (m : Monitor) (s : Step) (c : ℕ) : Type 0 where
  -- held and PC not 0: 15 always
  pub away : rule15 m s ≡ true → c ≡ 15
  -- else the lowest number of a rule that is tried and applies
  pub lowest : rule15 m s ≡ false → (k : ℕ) → k < rule_numbers → numbered (broken l m s) k ≡ true
      → ((j : ℕ) → j < k → numbered (broken l m s) j ≡ false) → c ≡ k
  -- 0 if there is none
  pub none : rule15 m s ≡ false → ((k : ℕ) → k < rule_numbers → numbered (broken l m s) k ≡ false) → c ≡ 0

-- this settles the cause
abbrev pub DecidedOnce : Type 0
DecidedOnce = (l : Layout) (m : Monitor) (s : Step) (c d : ℕ) → Decides l m s c → Decides l m s d → c ≡ d

-- how many of the first n answers in a room have a cause
unfoldable pub causes_in : List ℕ → ℕ → ℕ
causes_in room zero = 0
causes_in room (suc n) = causes_in room n + pick (eqb (get_or room (answer_size * n) 0) 0) 0 1

-- each step's first answer byte is the decision for it, and the totals are those of the answers
pub record Decided (layout trace room' : List ℕ) (total : Totals) : Type 0 where
  pub each : (i : ℕ) → i < count trace
      → (let l = layout_of layout in
      Decides l (monitor_before l (steps trace) i) (steps trace i) (get_or room' (answer_size * i) 0))
  pub steps : total.steps ≡ count trace
  pub resets : total.resets ≡ causes_in room' (count trace)

abbrev pub ResetDecision : Type 0
ResetDecision =
    (memory layout trace room memory' room' : List ℕ) (total : Totals)
    → Traces memory layout trace room memory' room' (Ok total) → Decided layout trace room' total

-- the same of the call for one step, from whatever the monitor remembers, and of what it then remembers
abbrev pub StepDecision : Type 0
StepDecision =
    (memory layout step : List ℕ) (m : Monitor) (room memory' room' : List ℕ) (m' : Monitor)
    → Steps memory layout step m room memory' room' (Ok m')
    → Decides (layout_of layout) m (steps step 0) (get_or room' 0 0)
    × (m' ≡ record { held = not (eqb (get_or room' 0 0) 0); lastpc = (steps step 0).pc })
