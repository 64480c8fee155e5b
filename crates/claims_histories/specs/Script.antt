-- Attestation as a trace: the bytes of a visit that makes the stores of an accepted call, given to the monitor.
-- Definitions and claims; the proofs are in proofs/Script.antt. Assumes nothing.
use Rattle.std.specs.Prelude.{◌≡◌, List, [], ◌++◌, ℕ, zero, suc, ◌≤◌, ◌<◌, ltb, length, Ok, Result}
use Rattle.notions.specs.Bytes.{Bytes}
use Rattle.notions.specs.Choice.{pick}
use Rattle.layout.specs.declared.Layout.{Layout}
use Rattle.layout.specs.Layouts.{layout_of}
use Rattle.steps.specs.declared.Step.{Step}
use Rattle.steps.specs.Steps.{encode, Addressed}
use Rattle.traces.specs.Traces.{steps}
use Rattle.monitor.specs.Promises.{Traces}
use Rattle.board.specs.Promises.{Attests}
use Rattle.claims_monitor.specs.Marked.{at}
use Rattle.claims_histories.specs.Visit.{played}
use Rattle.monitor.specs.declared.Totals.{Totals}
use Rattle.refusal.specs.declared.Refusal.{Refusal}

-- the bytes of n steps
unfoldable pub encoded : (ℕ → Step) → ℕ → List ℕ
encoded t zero = []
encoded t (suc n) = encoded t n ++ encode (t n)

-- they tell these steps
abbrev pub TellsSteps : Type 0
TellsSteps = (t : ℕ → Step) (n i : ℕ) → i < n → Addressed (t i) → steps (encoded t n) i ≡ t i

-- the visit of an accepted call, with a step before it and one behind it at PC 0 that access nothing
abbrev pub scripted : Layout → List ℕ → ℕ → Step
scripted l memory zero = at 0
scripted l memory (suc i) = pick (ltb i 64) (played l memory i) (at 0)

abbrev pub script : Layout → List ℕ → List ℕ
script l memory = encoded (scripted l memory) 66

-- for every accepted call, this trace is bytes
abbrev pub ScriptBytes : Type 0
ScriptBytes =
    (memory layout memory' : List ℕ) → Bytes layout → Bytes memory → Attests memory layout memory' (Ok tt)
    → Bytes (script (layout_of layout) memory)

-- and a call of `trace` with it and room for its answers is not refused, resets at no step and leaves the memory that
-- `attest` leaves
abbrev pub TraceAttests : Type 0
TraceAttests =
    (memory layout memory' room memory'' room' : List ℕ) (r : Result Totals Refusal) → Bytes layout → Attests memory layout memory' (Ok tt)
    → Traces memory layout (script (layout_of layout) memory) room memory'' room' r → 264 ≤ length room
    → (r ≡ Ok (record { steps = 66; resets = 0 })) × (memory'' ≡ memory')
