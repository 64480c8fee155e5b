-- What a caller finds in an object that it lends. Claims; their proofs are in proofs/Objects.antt. Assumes nothing.
use Rattle.std.specs.Prelude.{◌≡◌, List, [], ◌++◌, ℕ, zero, suc, ◌-◌, ◌%◌, ◌≤◌, ◌<◌, length, drop, replicate, Err, Ok, Result}
use Rattle.refusal.specs.declared.Refusal.{Refusal}
use Rattle.sha256.specs.declared.Sha.{Sha}
use Rattle.sha256.specs.Promises.{limit, Hashes}
use Rattle.lent_hash.specs.Promises.{Starts, TakesIn, Finishes}
use Rattle.refusal.specs.Answers.{Answer}

-- after taking in bytes, even none, the block behind the filled part is 0
abbrev pub TailIsZero : Type 0
TailIsZero =
    (s : Sha) (x : List ℕ) (s' : Sha) → length s.block ≡ 64 → TakesIn s x s' (Ok tt)
    → drop (s'.total % 64) s'.block ≡ replicate (64 - s'.total % 64) 0

-- refused, the object is as it was, whatever stands in it
abbrev pub RefusedIsKept : Type 0
RefusedIsKept = (s : Sha) (x : List ℕ) (s' : Sha) (r : Refusal) → TakesIn s x s' (Err r) → s' ≡ s

-- an object that is started and then takes in n parts, one after another
pub record Fed (parts : ℕ → List ℕ) (n : ℕ) (objects : ℕ → Sha) (answers : ℕ → Answer) : Type 0 where
  pub begins : Starts (objects 0)
  pub goes_on : (k : ℕ) → k < n → TakesIn (objects k) (parts k) (objects (suc k)) (answers k)

-- any parts can be fed so
abbrev pub CanBeFed : Type 0
CanBeFed = (parts : ℕ → List ℕ) (n : ℕ) → (objects : ℕ → Sha) × (answers : ℕ → Answer) × Fed parts n objects answers

-- the first n parts, joined
unfoldable pub joined : (ℕ → List ℕ) → ℕ → List ℕ
joined parts zero = []
joined parts (suc n) = joined parts n ++ parts n

-- finished, it answers what `hash` answers of the parts joined
abbrev pub HashesInParts : Type 0
HashesInParts =
    (parts : ℕ → List ℕ) (n : ℕ) (objects : ℕ → Sha) (answers : ℕ → Answer) (d e : Result (List ℕ) Refusal)
    → Fed parts n objects answers → length (joined parts n) ≤ limit
    → Finishes (objects n) d → Hashes (joined parts n) e → d ≡ e
