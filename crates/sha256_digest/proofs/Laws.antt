-- Laws of digests, for the crates above. Assumes nothing.
use mathlib.Core.Path.{◌≡◌, refl, sym, ap, ◌∙◌}
use mathlib.Core.List.{List, ◌++◌}
use Prim.Native.Nat.{ℕ}
use lib.ListN.{length}
use Rattle.sha256_block.specs.Words.{bytes}
use Rattle.sha256_block.specs.Constants.{H}
use Rattle.sha256_block.specs.Block.{whole, rest}
use Rattle.sha256_block.proofs.Rest.{whole_rest}
use Rattle.sha256_digest.specs.Hash.{padding, out, sha256}

pub length_sha256 : (m : List ℕ) → length (sha256 m) ≡ 32
unfolding sha256 out bytes
length_sha256 m = refl

-- the hash value after a message's whole blocks, and what they leave of it
pub hashed : (m w r : List ℕ) → w ≡ whole H m → r ≡ out (whole w (rest m ++ padding (length m))) 8 → r ≡ sha256 m
unfolding sha256
hashed m w r ew er = er ∙ ap (λ (u : List ℕ). out (whole u (rest m ++ padding (length m))) 8) ew
    ∙ ap (λ (u : List ℕ). out u 8) (sym (whole_rest H m (padding (length m))))
