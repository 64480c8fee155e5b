-- What the public functions promise, for all inputs. Assumes nothing.
use Rattle.std.specs.Prelude.{◌≡◌, Bool, List, ℕ, ◌%◌, ◌^◌, leb, length, take, replicate}
use Rattle.notions.specs.Choice.{pick}
use Rattle.sha256_digest.specs.Hash.{sha256, digest_from}

-- the standard has a digest of messages whose length in bits is below 2^64: none of n bytes
abbrev pub beyond_standard : ℕ → Bool
beyond_standard n = leb (2 ^ 61) n

-- `digest_of`: of any message of the standard
abbrev pub Digests : List ℕ → List ℕ → Type 0
Digests m r = r ≡ pick (beyond_standard (length m)) (replicate 32 0) (sha256 m)

-- `digest_from`: of n bytes, from the hash value s after their whole blocks and a block that begins with those left
abbrev pub DigestsFrom : List ℕ → List ℕ → ℕ → List ℕ → Type 0
DigestsFrom s block n r =
    r ≡ pick (beyond_standard n) (replicate 32 0) (digest_from s (take (n % 64) block) n)
