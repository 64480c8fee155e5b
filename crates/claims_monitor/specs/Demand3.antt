-- Demand 3: what a run shows does not depend on the key, on the scratch, or on what the attestation code stores there.
-- Definitions and claims; the proofs are in proofs/: Demand3, Demand3Calls and Exact. Assumes nothing.
use Rattle.std.specs.Prelude.{◌≡◌, Bool, true, false, ◌&&◌, List, ℕ, ◌/◌, ◌%◌, ◌<◌, eqb, length, get_or, Result}
use Rattle.notions.specs.Choice.{pick}
use Rattle.layout.specs.declared.Layout.{Layout}
use Rattle.layout.specs.Regions.{outside}
use Rattle.layout.specs.Layouts.{layout_of}
use Rattle.steps.specs.declared.Step.{Step}
use Rattle.rules.specs.declared.Monitor.{Monitor}
use Rattle.rules.specs.Rules.{code_writes_in, start}
use Rattle.monitor.specs.Decisions.{decided_answer}
use Rattle.traces.specs.Traces.{step_size, steps}
use Rattle.monitor.specs.Runs.{State, begin, before, said, answers, resetting}
use Rattle.monitor.specs.Promises.{Steps, Traces}
use Rattle.claims_monitor.specs.Marked.{dma_reads}
use Rattle.claims_monitor.specs.Traces.{remembers, cause_at}
use Rattle.refusal.specs.declared.Refusal.{Refusal}
use Rattle.monitor.specs.declared.Totals.{Totals}

-- ---- what may differ

-- two memories of one length, with the same byte at every address outside KR and XS
pub record Agree (l : Layout) (x y : List ℕ) : Type 0 where
  pub long : length x ≡ length y
  pub same : (k : ℕ) → outside l.kr k ≡ true → outside l.xs k ≡ true → get_or x k 0 ≡ get_or y k 0

-- the step stores a byte into the scratch: it writes with PC in CR and address in XS
abbrev pub stores_scratch : Layout → Step → Bool
stores_scratch l s = code_writes_in l.xs l s

-- the step with another byte as CPU data
abbrev pub with_data : Step → ℕ → Step
with_data s v = record {
  pc = s.pc;
  cpuaddress = s.cpuaddress;
  dmaaddress = s.dmaaddress;
  cpureads = s.cpureads;
  cpuwrites = s.cpuwrites;
  interrupt = s.interrupt;
  dmaactive = s.dmaactive;
  dmawrites = s.dmawrites;
  cpudata = v;
  dmadata = s.dmadata;
}

-- the step with 0 for the byte that it stores into the scratch, if it does
abbrev pub blank : Layout → Step → Step
blank l s = with_data s (pick (stores_scratch l s) 0 s.cpudata)

-- the first n steps are the same, but for bytes stored into the scratch
abbrev pub SameSteps : Layout → (ℕ → Step) → (ℕ → Step) → ℕ → Type 0
SameSteps l s t n = (k : ℕ) → k < n → blank l (s k) ≡ blank l (t k)

-- ---- runs

-- n steps of two runs, the one with steps s from x, the other with steps t from y, show the same
pub record Unseen (l : Layout) (s t : ℕ → Step) (x y : State) (n : ℕ) : Type 0 where
  -- at each step the same cause, and the same answer: cause, exposure bits, both bytes
  pub causes : (k : ℕ) → k < n → cause_at l s x k ≡ cause_at l t y k
  pub each : (k : ℕ) → k < n → said l s x k ≡ said l t y k
  -- all answer bytes, and the number of resets
  pub answered : answers l s x n ≡ answers l t y n
  pub counted : resetting l s x n ≡ resetting l t y n
  -- the monitors go on as one, and the memories differ at most in KR and XS
  pub monitors : remembers l s x n ≡ remembers l t y n
  pub memories : Agree l (before l s x n).memory (before l t y n).memory

-- from the monitor's start, for every layout, good or not
abbrev pub Demand3Runs : Type 0
Demand3Runs =
    (l : Layout) (s t : ℕ → Step) (x y : List ℕ) (n : ℕ)
    → Agree l x y → SameSteps l s t n → Unseen l s t (begin x) (begin y) n

-- and from whatever the monitor remembers
abbrev pub FromAny : Type 0
FromAny =
    (l : Layout) (m : Monitor) (s t : ℕ → Step) (x y : List ℕ) (n : ℕ)
    → Agree l x y → SameSteps l s t n
    → Unseen l s t (record { monitor = m; memory = x }) (record { monitor = m; memory = y }) n

-- ---- and only that may differ

-- two memories of one length agree, if no step with PC 0 in which the DMA reads tells them apart at the monitor's start
abbrev pub Demand3Exact : Type 0
Demand3Exact =
    (l : Layout) (x y : List ℕ) → length x ≡ length y
    → ((k : ℕ) → k < length x → decided_answer l start (dma_reads 0 k) x ≡ decided_answer l start (dma_reads 0 k) y) → Agree l x y

-- ---- calls, on bytes

-- the CPU data's place in a step
abbrev pub cpu_data : ℕ
cpu_data = 7

-- byte k of a trace is stored into the scratch
abbrev pub secret : Layout → List ℕ → ℕ → Bool
secret l b k = eqb (k % step_size) cpu_data && stores_scratch l (steps b (k / step_size))

-- two traces of one length, with the same byte at every other place
pub record SameTrace (l : Layout) (b c : List ℕ) : Type 0 where
  pub long : length b ≡ length c
  pub same : (k : ℕ) → secret l b k ≡ false → get_or b k 0 ≡ get_or c k 0

-- it does not matter which of the two traces says where those places are
abbrev pub EitherTells : Type 0
EitherTells = (l : Layout) (b c : List ℕ) → SameTrace l b c → SameTrace l c b

-- two calls give the same answer, leave the same answer room, and leave memories that differ at most in KR and XS
pub record SameCall {A : Type 0} (l : Layout) (r q : A) (room₁ room₂ x y : List ℕ) : Type 0 where
  pub told : r ≡ q
  pub rooms : room₁ ≡ room₂
  pub memories : Agree l x y

-- two calls for a trace, with any bytes as layout: where the one is refused, the other is too, alike
abbrev pub Demand3Calls : Type 0
Demand3Calls =
    (layout b c room x y x' y' room₁ room₂ : List ℕ) (r q : Result Totals Refusal)
    → Agree (layout_of layout) x y → SameTrace (layout_of layout) b c
    → Traces x layout b room x' room₁ r → Traces y layout c room y' room₂ q
    → SameCall (layout_of layout) r q room₁ room₂ x' y'

-- two calls for one step, from one monitor
abbrev pub Demand3Steps : Type 0
Demand3Steps =
    (layout b c : List ℕ) (m : Monitor) (room x y x' y' room₁ room₂ : List ℕ) (r q : Result Monitor Refusal)
    → Agree (layout_of layout) x y → SameTrace (layout_of layout) b c
    → Steps x layout b m room x' room₁ r → Steps y layout c m room y' room₂ q
    → SameCall (layout_of layout) r q room₁ room₂ x' y'
