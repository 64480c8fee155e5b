-- The promise that is not an equation settles its result: two results that meet it are equal. Assumes nothing.
use Rattle.std.specs.Prelude.{◌≡◌, List, ℕ}
use Rattle.std.proofs.Common.{sym, ◌∙◌}
use Rattle.hex_text.specs.Promises.{WritesHex}

pub writes_hex_settled : (b out out₁ out₂ : List ℕ) (r q : ℕ)
    → WritesHex b out out₁ r → WritesHex b out out₂ q → (r ≡ q) × (out₁ ≡ out₂)
writes_hex_settled b out out₁ out₂ r q p p' = (p.answered ∙ sym p'.answered, p.out_left ∙ sym p'.out_left)
