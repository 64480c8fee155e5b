-- The key's block. Assumes nothing.
use mathlib.Core.Path.{◌≡◌, ap, ◌∙◌}
use mathlib.Core.Bool.{false}
use mathlib.Core.List.{List, ◌++◌, append-nil}
use Prim.Native.Nat.{ℕ, ◌-◌, ◌≤◌, ◌<◌}
use native.Mathlib.Omega.{arith}
use borrow.Author.Tests.{lt-ltb, le-ltb, ne_eqb, eqb-true}
use lib.Dec.{eqb}
use lib.ListN.{length, replicate}
use Rattle.notions.proofs.Tests.{cases}
use Rattle.sha256_digest.specs.Hash.{sha256}
use Rattle.sha256.specs.Running.{block_of}
use Rattle.sha256.proofs.Running.{block_short}
use Rattle.sha256_digest.proofs.Laws.{length_sha256}
use Rattle.hmac.specs.Hmac.{k0}

-- a key over a block's length
pub key_long : (k d r : List ℕ) → 64 < length k → d ≡ sha256 k → r ≡ block_of d → r ≡ k0 k
unfolding k0
key_long k d r h ed er =
    let l : length (sha256 k) ≡ 32 = length_sha256 k in
    let n : eqb (length k) 64 ≡ false = ne_eqb (length k) 64 (λ e. omega arith) in
    rw (n, lt-ltb 64 (length k) h) (er ∙ ap block_of ed ∙ block_short (sha256 k) (omega arith))

-- a key of a block's length or less: behind one of 64 bytes there are no zeros
pub key_short : (k r : List ℕ) → length k ≤ 64 → r ≡ block_of k → r ≡ k0 k
unfolding k0
key_short k r h er =
    cases (eqb (length k) 64)
    (λ e.
    let l : length k ≡ 64 = eqb-true (length k) 64 e in
    let z : 64 - length k ≡ 0 = omega arith in
    rw e (er ∙ block_short k h ∙ ap (λ (n : ℕ). k ++ replicate n 0) z ∙ append-nil k))
    (λ n. rw (n, le-ltb 64 (length k) h) (er ∙ block_short k h))
