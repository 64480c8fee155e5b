-- The promise that is not an equation settles its result: two results that meet it are equal. Assumes nothing.
use Rattle.std.specs.Prelude.{◌≡◌, List, ℕ}
use Rattle.std.proofs.Common.{sym, ◌∙◌}
use Rattle.octets.specs.Promises.{ReadsNumber}

pub reads_number_settled : (b : List ℕ) (from k r q : ℕ) → ReadsNumber b from k r → ReadsNumber b from k q → r ≡ q
reads_number_settled b from k r q p p' = p.value ∙ sym p'.value
