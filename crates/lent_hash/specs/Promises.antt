-- What the functions over a lent running hash promise: what the methods by value promise, of what stands in the object
-- before and after.
-- Assumes nothing.
use Rattle.std.specs.Prelude.{◌≡◌, List, ℕ, Result}
use Rattle.sha256.specs.declared.Sha.{Sha}
use Rattle.refusal.specs.declared.Refusal.{Refusal}
use Rattle.sha256.specs.Promises as by_value
use Rattle.lent_hash.specs.declared.Finished.{Finished}
use Rattle.refusal.specs.Answers.{Answer}

-- an object is its three fields, whatever they are
abbrev pub object : List ℕ → List ℕ → ℕ → Sha
object words block total = record { words = words; block = block; total = total }

-- `start`: the object s' afterwards, whatever it was before
abbrev pub Starts : Sha → Type 0
Starts s' = by_value.Starts s'

-- `take_in`: the object s with the bytes x is answered with r, and is s' afterwards
abbrev pub TakesIn : Sha → List ℕ → Sha → Answer → Type 0
TakesIn s x s' r = by_value.TakesIn s x (record { answer = r; state = s' })

-- `finish`: the object is read only
abbrev pub Finishes : Sha → Result (List ℕ) Refusal → Type 0
Finishes s r = by_value.Finishes s r

-- `finish_with_fields`: the object is handed back as it was
pub record FinishesLent (s : Sha) (r : Finished) : Type 0 where
  pub finished : Finishes s r.digest
  pub kept : r.state ≡ s
