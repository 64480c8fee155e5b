-- How long the padding is, in the standard's own terms: FIPS 180-4, 5.1.1, which counts in bits, and 5.2.1. What it
-- consists of is its definition, specs/Hash.antt. Assumes nothing.
use Rattle.std.specs.Prelude.{◌≡◌, List, ℕ, ◌+◌, ◌*◌, ◌%◌, ◌≤◌, length}
use Rattle.sha256_digest.specs.Hash.{zeros, padding, padded}

-- 5.1.1: k zero bits behind a message of l bits and the one bit leave 64 bits of a block: l + 1 + k is 448 modulo 512
abbrev pub Fit : ℕ → ℕ → Type 0
Fit l k = (l + 1 + k) % 512 ≡ 448

-- the zero bits in the padding of a message of n bytes: seven in the byte of the one bit, and those of the zero bytes
abbrev pub zero_bits : ℕ → ℕ
zero_bits n = 7 + zeros n * 8

-- they are such a k, and there is no smaller one
abbrev pub ZerosFit : Type 0
ZerosFit = (n : ℕ) → Fit (n * 8) (zero_bits n)

abbrev pub ZerosFewest : Type 0
ZerosFewest = (n k : ℕ) → Fit (n * 8) k → zero_bits n ≤ k

-- the padding is as long as the one bit, these zero bits and the 64 bits of the length
abbrev pub PaddingLong : Type 0
PaddingLong = (n : ℕ) → length (padding n) * 8 ≡ 1 + zero_bits n + 64

-- 5.2.1: a message with its padding is whole blocks of 64 bytes
abbrev pub PaddedWhole : Type 0
PaddedWhole = (m : List ℕ) → length (padded m) % 64 ≡ 0
