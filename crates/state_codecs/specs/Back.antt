-- Nothing is lost: bytes that are read as a state are written back as they were. Assumes nothing.
use Rattle.std.specs.Prelude.{◌≡◌, List, ℕ, length}
use Rattle.notions.specs.Bytes.{Bytes}
use Rattle.state_codecs.specs.States.{state_length, state_of, state_bytes}

-- 104 bytes are those of their state
abbrev pub StateBack : Type 0
StateBack = (b : List ℕ) → Bytes b → length b ≡ state_length → state_bytes (state_of b) ≡ b
