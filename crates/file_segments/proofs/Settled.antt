-- The promise that is not an equation settles its result: two results that meet it are equal. Assumes nothing.
use Rattle.std.specs.Prelude.{◌≡◌, List, ℕ}
use Rattle.std.proofs.Common.{sym, ◌∙◌}
use Rattle.refusal.proofs.Settled.{row_settled}
use Rattle.file_segments.specs.Promises.{ChecksSegments}
use Rattle.refusal.specs.Answers.{Answer}

pub checks_segments_settled : (b : List ℕ) (r q : Answer) → ChecksSegments b r → ChecksSegments b q → r ≡ q
checks_segments_settled b r q p p' = row_settled r q (p ∙ sym p')
