-- The promise of `mac` settles its result. Assumes nothing.
use Rattle.std.specs.Prelude.{◌≡◌, List, ℕ, Result}
use Rattle.refusal.specs.declared.Refusal.{Refusal}
use Rattle.sha256.proofs.Settled.{gives_settled}
use Rattle.hmac.specs.Promises.{Macs}

pub macs_settled : (k m : List ℕ) (r q : Result (List ℕ) Refusal) → Macs k m r → Macs k m q → r ≡ q
macs_settled k m r q p p' = gives_settled _ _ r q p p'
