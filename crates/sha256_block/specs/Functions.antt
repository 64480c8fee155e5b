-- FIPS 180-4, 4.1.2: SHA-256's six functions on words. Assumes nothing.
use Rattle.std.specs.Prelude.{ℕ, bit_and, bit_xor}
use Rattle.sha256_block.specs.Words.{complement, shr, rotr}

-- (4.2)
abbrev pub ch : ℕ → ℕ → ℕ → ℕ
ch x y z = bit_xor (bit_and x y) (bit_and (complement x) z)

-- (4.3)
abbrev pub maj : ℕ → ℕ → ℕ → ℕ
maj x y z = bit_xor (bit_xor (bit_and x y) (bit_and x z)) (bit_and y z)

-- (4.4)
abbrev pub Σ0 : ℕ → ℕ
Σ0 x = bit_xor (bit_xor (rotr 2 x) (rotr 13 x)) (rotr 22 x)

-- (4.5)
abbrev pub Σ1 : ℕ → ℕ
Σ1 x = bit_xor (bit_xor (rotr 6 x) (rotr 11 x)) (rotr 25 x)

-- (4.6)
abbrev pub σ0 : ℕ → ℕ
σ0 x = bit_xor (bit_xor (rotr 7 x) (rotr 18 x)) (shr 3 x)

-- (4.7)
abbrev pub σ1 : ℕ → ℕ
σ1 x = bit_xor (bit_xor (rotr 17 x) (rotr 19 x)) (shr 10 x)
