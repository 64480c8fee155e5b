-- The running hash: what starting, taking bytes in and finishing are, of any state.
-- Assumes nothing.
use Rattle.std.specs.Prelude.{List, ◌++◌, ℕ, ◌+◌, ◌-◌, ◌%◌, length, take, replicate}
use Rattle.sha256_block.specs.Constants.{H}
use Rattle.sha256_block.specs.Block.{whole, rest}
use Rattle.sha256.specs.declared.Sha.{Sha}
use Rattle.sha256_digest.specs.Hash.{digest_from}

-- the filled part of a state's block: as many bytes as the total modulo 64
abbrev pub filled : Sha → List ℕ
filled s = take (s.total % 64) s.block

-- a block that begins with the bytes y, the first 64 if they are more, and is 0 behind them
abbrev pub block_of : List ℕ → List ℕ
block_of y = take 64 y ++ replicate (64 - length y) 0

-- before any byte
unfoldable pub started : Sha
started = record { words = H; block = replicate 64 0; total = 0 }

-- the state s with the bytes x taken in: the whole blocks of the filled part and x are hashed, and the block holds the
-- rest of them
unfoldable pub taken : Sha → List ℕ → Sha
taken s x =
    let y = filled s ++ x in
    record { words = whole s.words y; block = block_of (rest y); total = s.total + length x }

-- the digest of the state s: its filled part and the padding that belongs to its total are the last blocks
unfoldable pub digest : Sha → List ℕ
digest s = digest_from s.words (filled s) s.total
