-- FIPS 180-4, 5.1.1, 5.2.1 and 6.2: SHA-256 of a message, as a list of bytes. Assumes nothing.
use Rattle.std.specs.Prelude.{List, [], ◌∷◌, ◌++◌, ℕ, zero, suc, ◌-◌, ◌*◌, ◌%◌, length, get_or, replicate}
use Rattle.sha256_block.specs.Words.{bytes}
use Rattle.sha256_block.specs.Constants.{H}
use Rattle.sha256_block.specs.Block.{whole}

-- 5.1.1: how many zero bytes the padding of a message of n bytes has behind its first byte, 80.
-- That byte holds the one bit and seven zero bits; with the others they are the fewest that leave 64 bits of a block
-- for the length.
abbrev pub zeros : ℕ → ℕ
zeros n = (119 - n % 64) % 64

-- 5.1.1: the padding of a message of n bytes: a one bit, zero bits, and the length in bits as 64 bits
unfoldable pub padding : ℕ → List ℕ
padding n = 0x80 ∷ (replicate (zeros n) 0 ++ bytes 8 (n * 8))

-- 5.2.1: the message with its padding is whole blocks
abbrev pub padded : List ℕ → List ℕ
padded m = m ++ padding (length m)

-- the first n words of the hash value s, as bytes
unfoldable pub out : List ℕ → ℕ → List ℕ
out s zero = []
out s (suc n) = out s n ++ bytes 4 (get_or s n 0)

-- 6.2.2: the digest of the message m
unfoldable pub sha256 : List ℕ → List ℕ
sha256 m = out (whole H (padded m)) 8

-- the same of n bytes: s is the hash value after their whole blocks, and l are the bytes behind those
abbrev pub digest_from : List ℕ → List ℕ → ℕ → List ℕ
digest_from s l n = out (whole s (l ++ padding n)) 8
