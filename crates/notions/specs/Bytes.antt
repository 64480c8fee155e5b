-- Lists of bytes. Assumes nothing.
use Rattle.std.specs.Prelude.{List, ℕ, ◌<◌, get_or}

-- each element is a byte; what stands behind the end counts as 0
abbrev pub Bytes : List ℕ → Type 0
Bytes l = (i : ℕ) → get_or l i 0 < 256
