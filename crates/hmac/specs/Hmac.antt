-- FIPS 198-1, table 1: HMAC with SHA-256, whose blocks are 64 bytes, of a key and a text as lists of bytes.
-- Assumes nothing.
use Rattle.std.specs.Prelude.{List, [], ◌∷◌, ◌++◌, ℕ, ◌-◌, eqb, ltb, length, replicate}
use Rattle.std.specs.Int.Bits.{bit_xor}
use Rattle.notions.specs.Choice.{pick}
use Rattle.sha256_digest.specs.Hash.{sha256}

-- zeros behind a key, to a block's length
abbrev pub extended : List ℕ → List ℕ
extended k = k ++ replicate (64 - length k) 0

-- steps 1 to 3: a key of one block is taken as it is; a longer one is hashed and then extended;
-- a shorter one is extended
unfoldable pub k0 : List ℕ → List ℕ
k0 k = pick (eqb (length k) 64) k (pick (ltb 64 (length k)) (extended (sha256 k)) (extended k))

-- steps 4 and 7: each byte XOR x
unfoldable pub xored : ℕ → List ℕ → List ℕ
xored x [] = []
xored x (b ∷ l) = bit_xor b x ∷ xored x l

-- the byte of which ipad consists, and that of opad
abbrev pub ipad : ℕ
ipad = 0x36

abbrev pub opad : ℕ
opad = 0x5c

-- steps 4 to 6: the inner hash
abbrev pub inner : List ℕ → List ℕ → List ℕ
inner k m = sha256 (xored ipad (k0 k) ++ m)

-- steps 7 to 9: the MAC of the text m under the key k
unfoldable pub hmac : List ℕ → List ℕ → List ℕ
hmac k m = sha256 (xored opad (k0 k) ++ inner k m)
