-- What the public functions promise, for all inputs. `Starts`, `TakesIn`, `Finishes`, `IsBlock` and `Hashes` are the
-- contracts of the functions so named; `Gives` is the shape of every answer of 32 bytes, here and in the crates above.
-- Assumes nothing.
use Rattle.std.specs.Prelude.{◌≡◌, Bool, List, ℕ, ◌+◌, ltb, length, Result, Ok, Err}
use Rattle.refusal.specs.declared.Reason.TheVariants.{LengthOrTotal}
use Rattle.notions.specs.Choice.{pick}
use Rattle.refusal.specs.declared.Refusal.{Refusal}
use Rattle.refusal.specs.Answers.{row, refused_if}
use Rattle.sha256.specs.declared.Sha.{Sha}
use Rattle.sha256.specs.declared.Taken.{Taken}
use Rattle.sha256_digest.specs.Hash.{sha256}
use Rattle.sha256.specs.Running.{block_of, started, taken, digest}

-- the hash takes 0 to 131,072 bytes
abbrev pub limit : ℕ
limit = 131072

-- n bytes are too many
abbrev pub over : ℕ → Bool
over n = ltb limit n

-- the refusal that a length or a total is too large
abbrev pub too_long : Refusal
too_long = record { reason = LengthOrTotal; place = 0 }

-- refused with 12 exactly if t holds; else the bytes b
abbrev pub Gives : Bool → List ℕ → Result (List ℕ) Refusal → Type 0
Gives t b r = r ≡ pick t (Err too_long) (Ok b)

-- `Sha::start`
abbrev pub Starts : Sha → Type 0
Starts r = r ≡ started

-- `Sha::take_in`: refused exactly if the total with the new bytes is over the limit, and then the state is handed back
-- as it was
pub record TakesIn (s : Sha) (x : List ℕ) (r : Taken) : Type 0 where
  pub answered : row r.answer ≡ refused_if (over (s.total + length x)) LengthOrTotal
  pub handed : r.state ≡ pick (over (s.total + length x)) s (taken s x)

-- `Sha::finish`: refused exactly if the total is over the limit
abbrev pub Finishes : Sha → Result (List ℕ) Refusal → Type 0
Finishes s r = Gives (over s.total) (digest s) r

-- `block_of`
abbrev pub IsBlock : List ℕ → List ℕ → Type 0
IsBlock b r = r ≡ block_of b

-- `hash`: refused exactly if the message is over the limit
abbrev pub Hashes : List ℕ → Result (List ℕ) Refusal → Type 0
Hashes m r = Gives (over (length m)) (sha256 m) r
