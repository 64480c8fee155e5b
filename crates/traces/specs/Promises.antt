-- What the functions promise, for all inputs. Assumes nothing.
use Rattle.std.specs.Prelude.{◌≡◌, Bool, List, ℕ, ltb, replicate}
use Rattle.notions.specs.Choice.{pick}
use Rattle.refusal.specs.Answers.{Answer, row}
use Rattle.traces.specs.Traces.{step_size, count, step_bytes, misfits, trace_check, step_check}

-- `step_record`: the bytes of step n, and zeros if the trace has no such step
abbrev pub GivesRecord : List ℕ → ℕ → List ℕ → Type 0
GivesRecord trace n r = r ≡ pick (ltb n (count trace)) (step_bytes trace n) (replicate step_size 0)

-- `misfits`
abbrev pub Misfits : List ℕ → Bool → Type 0
Misfits trace r = r ≡ misfits trace

-- `fits`, the check of a trace and of so much answer room, and `step_fits`, that of one step
pub record Fits (trace : List ℕ) (room : ℕ) (r : Answer) : Type 0 where
  pub answered : row r ≡ row (trace_check trace room)

pub record StepFits (step : List ℕ) (room : ℕ) (r : Answer) : Type 0 where
  pub answered : row r ≡ row (step_check step room)
