-- What the functions promise, for all inputs. Assumes nothing.
use Rattle.std.specs.Prelude.{◌≡◌, List, ℕ}
use Rattle.sha256.specs.declared.Sha.{Sha}
use Rattle.state_codecs.specs.States.{state_of, state_bytes}

-- `state_of`
abbrev pub IsState : List ℕ → Sha → Type 0
IsState b r = r ≡ state_of b

-- `state_bytes`
abbrev pub IsStateBytes : Sha → List ℕ → Type 0
IsStateBytes s r = r ≡ state_bytes s
