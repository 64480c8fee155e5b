-- The promise that is not an equation settles its result: two results that meet it are equal. Assumes nothing.
use Rattle.std.specs.Prelude.{◌≡◌, List, ℕ}
use Rattle.std.proofs.Common.{sym, ◌∙◌}
use Rattle.refusal.proofs.Settled.{row_settled}
use Rattle.file_contents.specs.Promises.{ChecksContents}
use Rattle.refusal.specs.Answers.{Answer}

pub checks_contents_settled : (f : List ℕ) (r q : Answer) → ChecksContents f r → ChecksContents f q → r ≡ q
checks_contents_settled f r q p p' = row_settled r q (p ∙ sym p')
