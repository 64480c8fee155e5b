-- What the public functions promise, for all inputs. Assumes nothing.
use Rattle.std.specs.Prelude.{◌≡◌, Bool, List, ℕ}
use Rattle.steps.specs.declared.Step.{Step}
use Rattle.steps.specs.Steps.{step_of, clean}

-- `decode`: the step that the bytes tell
abbrev pub Decodes : List ℕ → Step → Type 0
Decodes b r = r ≡ step_of b

-- `clean`: whether their zero bits and bytes are zero
abbrev pub IsClean : List ℕ → Bool → Type 0
IsClean b r = r ≡ clean b
