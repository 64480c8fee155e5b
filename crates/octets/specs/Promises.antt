-- What the functions promise, for all inputs. Assumes nothing.
use Rattle.std.specs.Prelude.{◌≡◌, List, ℕ, ◌^◌, ◌<◌, min}
use Rattle.std.proofs.lemmas.List.Edits.{sets}
use Rattle.octets.specs.Numbers.{number_at, number_bytes, number_of_two}

-- `number_of_two`
abbrev pub IsNumberOfTwo : ℕ → ℕ → ℕ → Type 0
IsNumberOfTwo low high r = r ≡ number_of_two low high

-- `number`: of the first eight bytes
abbrev pub IsNumber : List ℕ → ℕ → Type 0
IsNumber b r = r ≡ number_at b 0 number_bytes

-- `number_at`: of k bytes from a place on, and of eight if k is over eight
pub record ReadsNumber (b : List ℕ) (from k r : ℕ) : Type 0 where
  pub value : r ≡ number_at b from (min k number_bytes)
  pub small : r < 256 ^ min k number_bytes

-- `store`: the bytes x stand from a place on, as many as fit, and what stands beside them stays
abbrev pub Stores : List ℕ → ℕ → List ℕ → List ℕ → Type 0
Stores room at x room' = room' ≡ sets room at x
