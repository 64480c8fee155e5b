-- What the public functions promise, for all inputs. Assumes nothing.
use Rattle.std.specs.Prelude.{◌≡◌, ℕ}
use Rattle.layout.specs.declared.Layout.{Layout}
use Rattle.steps.specs.declared.Step.{Step}
use Rattle.rules.specs.declared.Monitor.{Monitor}
use Rattle.rules.specs.Rules.{cause}

-- `cause`: why the step resets, 0 if it does not
abbrev pub GivesCause : Layout → Monitor → Step → ℕ → Type 0
GivesCause l m s r = r ≡ cause l m s
