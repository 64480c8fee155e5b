-- What the functions promise, for all inputs. Assumes nothing.
use Rattle.std.specs.Prelude.{◌≡◌, List, ℕ}
use Rattle.rules.specs.declared.Monitor.{Monitor}
use Rattle.steps.specs.declared.Step.{Step}
use Rattle.steps.specs.Steps.{encode}
use Rattle.step_codecs.specs.Monitors.{monitor_of}

-- `monitor_of`
abbrev pub IsMonitor : List ℕ → Monitor → Type 0
IsMonitor b r = r ≡ monitor_of b

-- `step_bytes`
abbrev pub IsStepBytes : Step → List ℕ → Type 0
IsStepBytes s r = r ≡ encode s
