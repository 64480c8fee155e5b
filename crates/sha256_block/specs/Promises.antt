-- What the public functions promise, for all inputs. Assumes nothing.
use Rattle.std.specs.Prelude.{◌≡◌, ℕ, List}
use Rattle.sha256_block.specs.Constants.{H}
use Rattle.sha256_block.specs.Block.{whole}

-- `initial`: the initial hash value
abbrev pub IsInitial : List ℕ → Type 0
IsInitial r = r ≡ H

-- `blocks`: from the hash value s, that after all whole blocks of the bytes m
abbrev pub HashesBlocks : List ℕ → List ℕ → List ℕ → Type 0
HashesBlocks s m r = r ≡ whole s m
